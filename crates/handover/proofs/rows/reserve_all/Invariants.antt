use Rattle.std.proofs.Common.{◌≡◌, ℕ, ◌<◌, ◌≤◌, length, get_or}
use Rattle.handover.specs.Spans.{spans_of, room_of}
use Rattle.handover.proofs.rows.reserve_all.Given as goal

abbrev pub invariant-loop-pair : goal.invariant-loop-pair
invariant-loop-pair l =
    record {
      most : length l.rows.items ≤ 4294967296;
      spans : (k : ℕ) → spans_of l.rows.items k ≡ spans_of l.initial.rows.items k;
      room : (j : ℕ) (d : ℕ × ℕ) → j < l.pair-index → 0 < room_of l.rows.items (get_or l.pairs j d).0;
    }
