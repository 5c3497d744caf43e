use Rattle.std.proofs.Common.{◌≡◌, ◌<◌, ◌≤◌, ℕ, get_or}
use Rattle.reach_rules.proofs.bits.put_words.Given as goal

abbrev pub invariant-loop-place : goal.invariant-loop-place
invariant-loop-place l =
    record {
      put : (k : ℕ) → l.from ≤ k → k < l.place → get_or l.words k 0 ≡ l.full;
      others : (k : ℕ) → k < l.from → get_or l.words k 0 ≡ get_or l.fn.words k 0;
    }
