use Rattle.std.proofs.Common.{◌≡◌, [], replicate}
use Rattle.assign_engine.proofs.seating.no_members.Given as goal

abbrev pub invariant-loop : goal.invariant-loop
invariant-loop l = l.rolls.items ≡ replicate l.counter []
