use Rattle.std.proofs.Common.{◌≡◌, None}
use Rattle.price_certificate.specs.Faults.{first_below, number_fault_at}
use Rattle.price_certificate.proofs.faults.find_bad_number.Given as goal

abbrev pub invariant-loop-place : goal.invariant-loop-place
invariant-loop-place l = first_below (number_fault_at l.instance l.pairs) l.place ≡ None
