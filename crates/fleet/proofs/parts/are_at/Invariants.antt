use Rattle.std.proofs.Common.{◌≡◌, Some, map, take}
use Rattle.fleet.specs.Reached.{targets_at, targets_of}
use Rattle.fleet.proofs.parts.are_at.Given as goal

abbrev pub invariant-loop-place : goal.invariant-loop-place
invariant-loop-place l = targets_at l.others (take l.place l.numbers) ≡ map Some (targets_of (take l.place l.known))
