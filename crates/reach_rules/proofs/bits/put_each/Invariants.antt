use Rattle.std.proofs.Common.{◌≡◌, ◌<◌, ◌≤◌, ℕ}
use Rattle.reach_rules.specs.Bits.{bit_in}
use Rattle.reach_rules.proofs.bits.put_each.Given as goal

abbrev pub invariant-loop-number : goal.invariant-loop-number
invariant-loop-number l =
    record {
      put : (n : ℕ) → l.from ≤ n → n < l.number → bit_in l.words n ≡ l.bit;
      others : (n : ℕ) → n < l.from → bit_in l.words n ≡ bit_in l.fn.words n;
    }
