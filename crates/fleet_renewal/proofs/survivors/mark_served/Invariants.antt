use Rattle.std.proofs.Common.{◌≡◌, ◌<◌, ◌≤◌, ◌||◌, ℕ}
use Rattle.fleet.specs.Live.{mark_at}
use Rattle.fleet_renewal.specs.Renewed.{is_served}
use Rattle.fleet_renewal.proofs.survivors.mark_served.Given as goal

abbrev pub invariant-loop-number : goal.invariant-loop-number
invariant-loop-number l =
    record {
      before : (k : ℕ) → k < l.number → mark_at l.marks k ≡ (mark_at l.fn.marks k || is_served l.slots k);
      behind : (k : ℕ) → l.number ≤ k → mark_at l.marks k ≡ mark_at l.fn.marks k;
    }
