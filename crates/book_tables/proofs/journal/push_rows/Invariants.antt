use Rattle.std.proofs.Common.{◌≡◌, ◌++◌, drop, string_bytes}
use Rattle.book_tables.specs.Rows.{rows_from}
use Rattle.book_tables.proofs.journal.push_rows.Given as goal

abbrev pub invariant-loop-number : goal.invariant-loop-number
invariant-loop-number l =
    string_bytes l.text ++ rows_from l.file l.core.booked l.core.fleet.jobs l.number (drop l.number l.core.fleet.known)
    ≡ string_bytes l.fn.text ++ rows_from l.file l.core.booked l.core.fleet.jobs 0 l.core.fleet.known
