use Rattle.std.proofs.Common.{ℕ, ap, sym, ◌∙◌}
use Rattle.std.specs.Prelude.{◌==◌}
use Rattle.std.proofs.lemmas.Nat.Bits.{bit_at_ones, bit_at-zero}
use Rattle.reach_rules.proofs.bits.word_of.Goals as goal

pub returns-then-bit : goal.returns-then-bit
returns-then-bit c = λ place less. ap (λ (bit : ℕ). bit == 1) (bit_at_ones 64 place less) ∙ sym c.if-bit.true

pub returns-else-bit : goal.returns-else-bit
returns-else-bit c = λ place less. ap (λ (bit : ℕ). bit == 1) (bit_at-zero place) ∙ sym c.if-bit.false
