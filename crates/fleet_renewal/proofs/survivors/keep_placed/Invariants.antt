use Rattle.std.proofs.Common.{◌≡◌, ◌<◌, ◌≤◌, ◌&&◌, ℕ}
use Rattle.fleet.specs.Live.{mark_at}
use Rattle.fleet_renewal.specs.Renewed.{has_place}
use Rattle.fleet_renewal.proofs.survivors.keep_placed.Given as goal

abbrev pub invariant-loop-number : goal.invariant-loop-number
invariant-loop-number l =
    record {
      before : (k : ℕ) → k < l.number → mark_at l.marks k ≡ (has_place l.known l.places k && mark_at l.fn.marks k);
      behind : (k : ℕ) → l.number ≤ k → mark_at l.marks k ≡ mark_at l.fn.marks k;
    }
