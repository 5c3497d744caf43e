use Rattle.std.proofs.Common.{ℕ, ◌<◌, ◌≤◌, ◌-◌, length, get_or}
use Rattle.handover.proofs.rows.place_from.Given as goal

abbrev pub invariant-loop-place : goal.invariant-loop-place
invariant-loop-place l =
    record {
      forth : l.from ≤ l.place;
      bound : l.place ≤ length l.pairs;
      passed : (k : ℕ) → l.from ≤ k → k < l.place → (get_or l.pairs k (0, 0)).0 < l.target;
    }

abbrev pub decreases-loop-place : goal.decreases-loop-place
decreases-loop-place l = length l.pairs - l.place
