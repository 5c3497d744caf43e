use Rattle.std.proofs.Common.{◌≡◌, ◌-◌, take}
use Rattle.std.specs.List.{sum_by}
use Rattle.service_pages.specs.Counted.{told}
use Rattle.service_pages.proofs.notes.untold_moves.Given as goal

abbrev pub invariant-loop-row : goal.invariant-loop-row
invariant-loop-row l = l.untold ≡ l.moved - sum_by told (take l.row-index l.rows)
