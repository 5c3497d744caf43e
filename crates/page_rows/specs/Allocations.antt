-- What is told of a noted allocation.
use Rattle.std.specs.Prelude.{map}
use Rattle.service_pages.specs.declared.notes.AllocationNote.{AllocationNote}
use Rattle.service_pages.specs.declared.notes.MoveNote.{MoveNote}
use Rattle.sd_routes.specs.declared.allocation_row.AllocationRow.{AllocationRow}
use Rattle.sd_routes.specs.declared.allocation_row.MoveRow.{MoveRow}

abbrev pub move_row : MoveNote → MoveRow
move_row note = record { job = note.job; from = note.from; to = note.to; count = note.count }

abbrev pub allocation_row : AllocationNote → AllocationRow
allocation_row note =
    record {
      number = note.number;
      published = note.at;
      covered = note.covered;
      moved = note.moved;
      left = note.left;
      milliseconds = note.milliseconds;
      moves = map move_row note.moves;
      more_moves = note.more_moves;
    }
