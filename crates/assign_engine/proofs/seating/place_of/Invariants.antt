use Rattle.std.proofs.Common.{◌≡◌, take}
use Rattle.assign_engine.specs.Roll.{times_in}
use Rattle.assign_engine.proofs.seating.place_of.Given as goal

abbrev pub invariant-loop-place : goal.invariant-loop-place
invariant-loop-place l = times_in (take l.place l.items) l.item ≡ 0
