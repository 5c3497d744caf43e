use Rattle.std.proofs.Common.{◌≡◌, ◌++◌, drop, map, take}
use Rattle.fleet.specs.Changes.{with_draining_at}
use Rattle.fleet.proofs.collector.begin_draining.Given as goal

abbrev pub invariant-loop-collector : goal.invariant-loop-collector
invariant-loop-collector l = l.collectors ≡ map (with_draining_at l.id) (take l.collector-index l.fn.collectors) ++ drop l.collector-index l.fn.collectors
