use Rattle.std.proofs.Common.{◌≡◌, map, take}
use Rattle.page_rows.specs.Allocations.{allocation_row}
use Rattle.page_rows.proofs.allocation_rows.allocation_rows.Given as goal

abbrev pub invariant-loop-note : goal.invariant-loop-note
invariant-loop-note l = l.rows ≡ map allocation_row (take l.note-index l.notes)
