use Rattle.std.proofs.Common.{◌≡◌, ◌<◌, ◌≤◌, ℕ, get_or}
use Rattle.std.specs.Prelude.{map}
use Rattle.reach_rules.specs.Table.{shown}
use Rattle.reach_rules.specs.declared.row.Row.{Row}
use Rattle.reach_rules.proofs.table.make_room_in.Given as goal

abbrev pub invariant-loop-place : goal.invariant-loop-place
invariant-loop-place l =
    record {
      same : map shown l.rows ≡ map shown l.fn.rows;
      room : (k : ℕ) (d : Row) → k < l.place → l.more ≤ (get_or l.rows k d).reached.spare;
      rest : (k : ℕ) (d : Row) → l.place ≤ k → get_or l.rows k d ≡ get_or l.fn.rows k d;
    }
