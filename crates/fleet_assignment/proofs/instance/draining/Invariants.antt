use Rattle.std.proofs.Common.{◌≡◌, ◌++◌, drop}
use Rattle.price_certificate.specs.Document.{marked_from}
use Rattle.fleet_assignment.specs.Instance.{draining_for}
use Rattle.fleet_assignment.proofs.instance.draining.Given as goal

abbrev pub invariant-loop-bin : goal.invariant-loop-bin
invariant-loop-bin l = l.draining.items ++ marked_from l.bin (drop l.bin (draining_for l.jobs l.collectors)) ≡ marked_from 0 (draining_for l.jobs l.collectors)
