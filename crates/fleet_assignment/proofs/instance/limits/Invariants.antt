use Rattle.std.proofs.Common.{◌≡◌, ◌++◌, drop}
use Rattle.fleet_assignment.specs.Instance.{limits_for}
use Rattle.fleet_assignment.proofs.instance.limits.Given as goal

abbrev pub invariant-loop-collector : goal.invariant-loop-collector
invariant-loop-collector l = l.limits.items ++ limits_for l.jobs (drop l.collector-index l.collectors) ≡ limits_for l.jobs l.collectors
