use Rattle.std.proofs.Common.{◌≡◌, ◌<◌, ◌≤◌, ℕ, length, get_or}
use Rattle.journal_blocks.proofs.lengths.through_last.Given as goal

abbrev pub invariant-loop-count : goal.invariant-loop-count
invariant-loop-count l = record { within : l.count ≤ length l.bytes; none : (k : ℕ) → l.count ≤ k → k < length l.bytes → get_or l.bytes k 0 ≡ 10 → ⊥ }

abbrev pub decreases-loop-count : goal.decreases-loop-count
decreases-loop-count l = l.count
