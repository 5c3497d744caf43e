use Rattle.std.proofs.Common.{length}
use Rattle.assign_engine.specs.Pending.{HasPending}
use Rattle.assign_engine.proofs.search_tables.nearest.Given as goal

abbrev pub invariant-loop-distance : goal.invariant-loop-distance
invariant-loop-distance l = HasPending l.distances l.ranks l.cost l.frontier

abbrev pub decreases-loop-distance : goal.decreases-loop-distance
decreases-loop-distance l = length l.frontier
