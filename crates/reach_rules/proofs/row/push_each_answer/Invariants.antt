use Rattle.std.proofs.Common.{◌≡◌, ◌+◌, ◌++◌, take}
use Rattle.std.specs.Prelude.{map}
use Rattle.reach_rules.specs.Table.{answers}
use Rattle.reach_rules.proofs.row.push_each_answer.Given as goal

abbrev pub invariant-loop-target : goal.invariant-loop-target
invariant-loop-target g l =
    record {
      bits : l.reached.bits ≡ l.fn.reached.bits ++ answers l.reach (map g.T.HasTarget.final_target (take l.target-index l.targets));
      spare : l.reached.spare + l.target-index ≡ l.fn.reached.spare;
    }
