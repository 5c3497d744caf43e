use Rattle.std.proofs.Common.{drop, string_bytes}
use Rattle.book_tables.specs.Tables.{table_of}
use Rattle.book_tables.proofs.Ahead.{IsAhead}
use Rattle.book_tables.proofs.table.push_journals.Given as goal

abbrev pub invariant-loop-i : goal.invariant-loop-i
invariant-loop-i l = IsAhead (string_bytes l.fn.text) (string_bytes l.text) (table_of 0 l.journals) (table_of l.i (drop l.i l.journals))
