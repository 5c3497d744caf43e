use Rattle.spread_certificate.proofs.Counting.{IsSummed}
use Rattle.spread_certificate.proofs.groups.sum_caps.Given as goal

abbrev pub invariant-loop-bin : goal.invariant-loop-bin
invariant-loop-bin l = IsSummed l.instance l.jobs l.caps l.sums.items l.bin
