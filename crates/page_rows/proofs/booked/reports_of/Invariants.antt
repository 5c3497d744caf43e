use Rattle.std.proofs.Common.{◌≡◌, ◌==◌, ℕ, filter, take}
use Rattle.scrape_books.specs.declared.report.Entry.{Entry}
use Rattle.page_rows.proofs.booked.reports_of.Given as goal

abbrev pub invariant-loop-entry : goal.invariant-loop-entry
invariant-loop-entry l = l.reports ≡ filter (λ (p : ℕ × Entry). p.1.round == l.round) (take l.entry-index l.entries)
