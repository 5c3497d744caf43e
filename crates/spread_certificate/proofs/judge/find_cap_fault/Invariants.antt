use Rattle.std.proofs.Common.{◌≡◌, None}
use Rattle.price_certificate.specs.Faults.{first_below}
use Rattle.spread_certificate.specs.Judged.{cap_fault_at}
use Rattle.spread_certificate.proofs.judge.find_cap_fault.Given as goal

abbrev pub invariant-loop-bin : goal.invariant-loop-bin
invariant-loop-bin l = first_below (cap_fault_at l.instance l.caps) l.bin ≡ None
