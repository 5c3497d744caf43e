use Rattle.std.proofs.Common.{◌≡◌, ℕ, ◌≤◌, ◌-◌, max, length}
use Rattle.handover.specs.Spans.{spans_of, room_of}
use Rattle.handover.proofs.rows.grow.Given as goal

abbrev pub invariant-loop-alloc : goal.invariant-loop-alloc
invariant-loop-alloc l =
    record {
      most : length l.rows.items ≤ max (length l.initial.rows.items) l.len;
      spans : (k : ℕ) → spans_of l.rows.items k ≡ spans_of l.initial.rows.items k;
      room : (k : ℕ) → room_of l.initial.rows.items k ≤ room_of l.rows.items k;
    }

abbrev pub decreases-loop-alloc : goal.decreases-loop-alloc
decreases-loop-alloc l = l.len - length l.rows.items
