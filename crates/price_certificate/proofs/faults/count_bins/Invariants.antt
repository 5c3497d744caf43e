use Rattle.std.proofs.Common.{take}
use Rattle.price_certificate.specs.Faults.{IsCounted}
use Rattle.price_certificate.proofs.faults.count_bins.Given as goal

abbrev pub invariant-loop-place : goal.invariant-loop-place
invariant-loop-place l = IsCounted l.bins (take l.place l.pairs) l.counts.items
