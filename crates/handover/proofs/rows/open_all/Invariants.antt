use Rattle.std.proofs.Common.{◌≡◌, ℕ, ◌<◌, ◌≤◌, length, get_or, drop}
use Rattle.handover.specs.Spans.{spans_of, room_of, changed, opened}
use Rattle.handover.proofs.rows.open_all.Given as goal

abbrev pub invariant-loop-pair : goal.invariant-loop-pair
invariant-loop-pair l =
    record {
      spans : (k : ℕ) → changed (opened l.number) (drop l.pair-index l.pairs) k (spans_of l.rows.items k) ≡ changed (opened l.number) l.pairs k (spans_of l.initial.rows.items k);
      room : (j : ℕ) (d : ℕ × ℕ) → l.pair-index ≤ j → j < length l.pairs → 0 < room_of l.rows.items (get_or l.pairs j d).0;
      len : length l.rows.items ≡ length l.initial.rows.items;
    }
