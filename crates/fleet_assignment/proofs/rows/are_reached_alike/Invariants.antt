use Rattle.std.proofs.Common.{ℕ, ◌≡◌, ◌<◌, get_or}
use Rattle.fleet.specs.Reached.{reaches_at}
use Rattle.fleet_assignment.proofs.rows.are_reached_alike.Given as goal

abbrev pub invariant-loop-place : goal.invariant-loop-place
invariant-loop-place l = (i : ℕ) → i < l.place-index → reaches_at l.fleet (get_or l.asked i 0) l.first ≡ reaches_at l.fleet (get_or l.asked i 0) l.number
