use Rattle.std.proofs.Common.{ℕ, ◌<◌}
use Rattle.fleet_assignment.specs.Sharing.{IsAsked}
use Rattle.fleet_assignment.proofs.rows.asked.Given as goal

abbrev pub invariant-loop-place : goal.invariant-loop-place
invariant-loop-place l = (place : ℕ) → place < l.place → IsAsked l.collectors l.asked.items place
