use Rattle.std.proofs.Common.{◌≡◌, ◌++◌, drop}
use Rattle.assign_engine.specs.Seats.{pairs_from, pairs_of}
use Rattle.assign_engine.proofs.engine.pairs.Given as goal

abbrev pub invariant-loop-item : goal.invariant-loop-item
invariant-loop-item l = l.pairs.items ++ pairs_from l.item (drop l.item l.seating.seats) ≡ pairs_of l.seating.seats
