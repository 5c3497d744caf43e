use Rattle.std.proofs.Common.{◌≡◌, ◌<◌, ◌≤◌, ℕ, length}
use Rattle.fleet.specs.Live.{count_below}
use Rattle.served_lists.specs.Served.{has, slot_let_go, slot_of}
use Rattle.served_lists.proofs.slots.let_go.Given as goal

abbrev pub invariant-loop-target : goal.invariant-loop-target
invariant-loop-target l =
    record {
      before : (k : ℕ) → k < l.target → slot_of l.slots k ≡ slot_let_go l.known l.fn.slots l.collector l.job k;
      behind : (k : ℕ) → l.target ≤ k → slot_of l.slots k ≡ slot_of l.fn.slots k;
      len : length l.slots ≡ length l.fn.slots;
      count : l.count ≡ count_below (has l.known l.fn.slots l.collector l.job) l.target;
      few : l.count ≤ l.target;
    }
