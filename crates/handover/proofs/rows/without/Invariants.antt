use Rattle.std.proofs.Common.{◌≡◌, ℕ, ◌<◌, ◌≤◌, length, get_or, take}
use Rattle.handover.specs.Spans.{without}
use Rattle.handover.proofs.rows.without.Given as goal

abbrev pub invariant-loop-pair : goal.invariant-loop-pair
invariant-loop-pair l =
    record {
      lacking : l.lacking.items ≡ without l.others (take l.pair-index l.pairs);
      bound : l.place ≤ length l.others;
      passed : (k j : ℕ) → k < l.place → l.pair-index ≤ j → j < length l.pairs → (get_or l.others k (0, 0)).0 < (get_or l.pairs j (0, 0)).0;
    }
