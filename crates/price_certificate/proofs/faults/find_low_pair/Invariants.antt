use Rattle.std.proofs.Common.{◌≡◌, None}
use Rattle.price_certificate.specs.Faults.{first_below, price_fault_at}
use Rattle.price_certificate.proofs.faults.find_low_pair.Given as goal

abbrev pub invariant-loop-place : goal.invariant-loop-place
invariant-loop-place l = first_below (price_fault_at l.instance l.item_prices l.bin_prices l.item) l.place ≡ None
