use Rattle.std.proofs.Common.{◌≡◌, None}
use Rattle.price_certificate.specs.Faults.{first_below, limit_fault_at}
use Rattle.price_certificate.proofs.faults.find_full_bin.Given as goal

abbrev pub invariant-loop-bin : goal.invariant-loop-bin
invariant-loop-bin l = first_below (limit_fault_at l.instance l.pairs) l.bin ≡ None
