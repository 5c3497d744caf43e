use Rattle.std.proofs.Common.{◌++◌, ◌∷◌, ◌+◌, [], ℕ, List, ap, ◌∙◌, arith, length}
use Rattle.reach_rules.specs.Bits.{Bits, bit_in, bits_below}
use Rattle.reach_rules.proofs.BitLemmas.{bits_pushed, written}
use Rattle.reach_rules.proofs.bits.BitRow.push_reserved.Goals as goal

pub returns-clause-bits : goal.returns-clause-bits
returns-clause-bits c =
    let words = c.self.inside.words in
    ap (λ (ws : List ℕ). bits_below ws (c.self.inside.count + 1)) (written c.put_bit.new.words words.items words.len (words.ok.0) (c.put_bit.ensures.same ∙ ap (λ (ws : List ℕ). length ws) c.as_mut_slice.ensures.value))
    ∙ bits_pushed words.items c.put_bit.new.words c.self.inside.count c.args.bit c.put_bit.ensures.put
    (λ n less. c.put_bit.ensures.others n (omega (arith, less)) ∙ ap (λ (ws : List ℕ). bit_in ws n) c.as_mut_slice.ensures.value)
    ∙ ap (λ (row : Bits). row.bits ++ c.args.bit ∷ []) c.self.view_is
