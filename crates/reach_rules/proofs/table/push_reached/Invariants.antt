use Rattle.std.proofs.Common.{◌≡◌, ◌+◌, ◌++◌, take}
use Rattle.std.specs.Prelude.{map}
use Rattle.reach_rules.specs.Table.{is_reached_at}
use Rattle.reach_rules.proofs.table.push_reached.Given as goal

abbrev pub invariant-loop-number : goal.invariant-loop-number
invariant-loop-number l =
    record {
      bits : l.reached.bits ≡ l.fn.reached.bits ++ map (is_reached_at l.table.rows l.place) (take l.number-index l.numbers);
      spare : l.reached.spare + l.number-index ≡ l.fn.reached.spare;
    }
