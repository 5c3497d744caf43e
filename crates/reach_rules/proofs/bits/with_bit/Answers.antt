use Rattle.std.proofs.Common.{ℕ, ap, sym, ◌∙◌}
use Rattle.std.specs.Prelude.{◌==◌}
use Rattle.std.specs.Int.{w64}
use Rattle.std.proofs.lemmas.Nat.Bits.{bit_at_set_same, bit_at_set_other, bit_at_clear_same, bit_at_clear_other}
use Rattle.reach_rules.proofs.bits.with_bit.Goals as goal

pub returns-then-bit-clause-put : goal.returns-then-bit-clause-put
returns-then-bit-clause-put c = ap (λ (bit : ℕ). bit == 1) (bit_at_set_same w64 c.args.word c.args.place c.requires) ∙ sym c.if-bit.true

pub returns-then-bit-clause-others : goal.returns-then-bit-clause-others
returns-then-bit-clause-others c = λ other less not. bit_at_set_other w64 c.args.word c.args.place c.requires other not

pub returns-else-bit-clause-put : goal.returns-else-bit-clause-put
returns-else-bit-clause-put c = ap (λ (bit : ℕ). bit == 1) (bit_at_clear_same w64 c.args.word c.args.place c.requires) ∙ sym c.if-bit.false

pub returns-else-bit-clause-others : goal.returns-else-bit-clause-others
returns-else-bit-clause-others c = λ other less not. bit_at_clear_other w64 c.args.word c.args.place c.requires other less not
