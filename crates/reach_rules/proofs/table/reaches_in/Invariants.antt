use Rattle.std.proofs.Common.{◌≡◌, drop}
use Rattle.std.specs.Prelude.{map}
use Rattle.reach_rules.specs.Table.{is_reached, shown}
use Rattle.reach_rules.proofs.table.reaches_in.Given as goal

abbrev pub invariant-loop-row : goal.invariant-loop-row
invariant-loop-row l = is_reached (map shown (drop l.row-index l.rows)) l.id l.number ≡ is_reached (map shown l.rows) l.id l.number
