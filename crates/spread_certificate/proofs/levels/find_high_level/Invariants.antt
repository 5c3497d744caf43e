use Rattle.std.proofs.Common.{◌≡◌, None}
use Rattle.price_certificate.specs.Faults.{first_below}
use Rattle.spread_certificate.specs.EvenFaults.{level_fault_at}
use Rattle.spread_certificate.proofs.levels.find_high_level.Given as goal

abbrev pub invariant-loop-collector : goal.invariant-loop-collector
invariant-loop-collector l = first_below (level_fault_at l.even) l.collector ≡ None
