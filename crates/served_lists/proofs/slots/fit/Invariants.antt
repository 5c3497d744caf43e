use Rattle.std.proofs.Common.{◌≡◌, ◌<◌, ◌≤◌, ◌-◌, ℕ, length}
use Rattle.std.specs.Vec.{vec_capacity}
use Rattle.served_lists.specs.Served.{slot_of}
use Rattle.served_lists.proofs.slots.fit.Given as goal

abbrev pub invariant-loop-slots : goal.invariant-loop-slots
invariant-loop-slots l =
    record {
      slots : (t : ℕ) → t < l.len → slot_of l.slots.items t ≡ slot_of l.fn.slots.items t;
      most : length l.slots.items ≤ l.len;
      room : l.len ≤ vec_capacity l.slots;
    }

abbrev pub decreases-loop-slots : goal.decreases-loop-slots
decreases-loop-slots l = l.len - length l.slots.items
