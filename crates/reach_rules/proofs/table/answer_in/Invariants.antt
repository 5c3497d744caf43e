use Rattle.std.proofs.Common.{◌≡◌, ◌≤◌, ℕ, get_or, take}
use Rattle.std.specs.Prelude.{map}
use Rattle.reach_rules.specs.Table.{answered, shown}
use Rattle.reach_rules.specs.declared.row.Row.{Row}
use Rattle.reach_rules.proofs.table.answer_in.Given as goal

abbrev pub invariant-loop-place : goal.invariant-loop-place
invariant-loop-place g l =
    record {
      done : map shown (take l.place l.rows) ≡ map (answered (map g.T.HasTarget.final_target l.targets)) (map shown (take l.place l.fn.rows));
      rest : (k : ℕ) (d : Row) → l.place ≤ k → get_or l.rows k d ≡ get_or l.fn.rows k d;
    }
