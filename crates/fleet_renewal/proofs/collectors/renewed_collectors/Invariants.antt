use Rattle.std.proofs.Common.{◌≡◌, take, map}
use Rattle.fleet_renewal.specs.Renewed.{renewed_collector}
use Rattle.fleet_renewal.proofs.collectors.renewed_collectors.Given as goal

abbrev pub invariant-loop-collector : goal.invariant-loop-collector
invariant-loop-collector l = l.renewed.items ≡ map (renewed_collector l.jobs) (take l.collector-index l.collectors)
