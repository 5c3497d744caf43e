use Rattle.std.proofs.Common.{◌≡◌, None}
use Rattle.price_certificate.specs.Faults.{first_below}
use Rattle.spread_certificate.specs.EvenFaults.{price_fault_at}
use Rattle.spread_certificate.proofs.levels.find_low_pair.Given as goal

abbrev pub invariant-loop-place : goal.invariant-loop-place
invariant-loop-place l = first_below (price_fault_at l.instance l.even l.item) l.place ≡ None
