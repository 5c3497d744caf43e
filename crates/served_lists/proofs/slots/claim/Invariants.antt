use Rattle.std.proofs.Common.{◌≡◌, ℕ, length, drop}
use Rattle.std.specs.Prelude.{if◌then◌else◌}
use Rattle.fleet.specs.Live.{is_in}
use Rattle.served_lists.specs.Served.{slot_of}
use Rattle.served_lists.proofs.slots.claim.Given as goal

abbrev pub invariant-loop-target : goal.invariant-loop-target
invariant-loop-target l =
    record {
      slots : (t : ℕ) → (if is_in (drop l.target-index l.targets) t then l.collector else slot_of l.slots t) ≡ (if is_in l.targets t then l.collector else slot_of l.fn.slots t);
      len : length l.slots ≡ length l.fn.slots;
    }
