use Rattle.std.proofs.Common.{◌≡◌, ◌++◌, map, take, drop}
use Rattle.exposition.specs.Counting.{observed}
use Rattle.exposition.proofs.observing.observe_in.Given as goal

abbrev pub invariant-loop-i : goal.invariant-loop-i
invariant-loop-i l = l.buckets ≡ map (observed l.microseconds) (take l.i l.initial.buckets) ++ drop l.i l.initial.buckets
