use Rattle.std.proofs.Common.{◌≡◌, drop}
use Rattle.page_rows.specs.Booked.{has_up_to}
use Rattle.page_rows.proofs.booked.has_up_to.Given as goal

abbrev pub invariant-loop-entry : goal.invariant-loop-entry
invariant-loop-entry l = has_up_to l.round (drop l.entry-index l.entries) ≡ has_up_to l.round l.entries
