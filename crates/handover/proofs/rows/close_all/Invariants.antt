use Rattle.std.proofs.Common.{◌≡◌, ℕ, length, drop}
use Rattle.handover.specs.Spans.{spans_of, room_of, changed, closed}
use Rattle.handover.proofs.rows.close_all.Given as goal

abbrev pub invariant-loop-pair : goal.invariant-loop-pair
invariant-loop-pair l =
    record {
      spans : (k : ℕ) → changed (λ (_ : ℕ). closed l.number) (drop l.pair-index l.pairs) k (spans_of l.rows.items k) ≡ changed (λ (_ : ℕ). closed l.number) l.pairs k (spans_of l.initial.rows.items k);
      room : (k : ℕ) → room_of l.rows.items k ≡ room_of l.initial.rows.items k;
      len : length l.rows.items ≡ length l.initial.rows.items;
    }
