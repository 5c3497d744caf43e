use Rattle.std.proofs.Common.{◌≡◌, ◌++◌, drop, map, take}
use Rattle.fleet.specs.Changes.{with_limits_at}
use Rattle.fleet.proofs.collector.replace_limits.Given as goal

abbrev pub invariant-loop-collector : goal.invariant-loop-collector
invariant-loop-collector l =
    record {
      same : l.collectors ≡ l.fn.collectors;
      others : l.collectors ≡ map (with_limits_at l.id l.limits) (take l.collector-index l.fn.collectors) ++ drop l.collector-index l.fn.collectors;
    }
