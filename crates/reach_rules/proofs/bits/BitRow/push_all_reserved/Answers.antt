use Rattle.std.proofs.Common.{◌++◌, ◌+◌, ℕ, List, ap, ◌∙◌, length}
use Rattle.std.specs.Prelude.{replicate}
use Rattle.reach_rules.specs.Bits.{Bits, bit_in, bits_below}
use Rattle.reach_rules.proofs.BitLemmas.{bits_filled, written}
use Rattle.reach_rules.proofs.bits.BitRow.push_all_reserved.Goals as goal

pub returns : goal.returns
returns c =
    let words = c.self.inside.words in
    ap (λ (ws : List ℕ). bits_below ws (c.self.inside.count + c.args.more)) (written c.put_bits.new.words words.items words.len (words.ok.0) (c.put_bits.ensures.same ∙ ap (λ (ws : List ℕ). length ws) c.as_mut_slice.ensures.value))
    ∙ bits_filled words.items c.put_bits.new.words c.self.inside.count c.args.more c.args.bit c.put_bits.ensures.put
    (λ n less. c.put_bits.ensures.others n less ∙ ap (λ (ws : List ℕ). bit_in ws n) c.as_mut_slice.ensures.value)
    ∙ ap (λ (row : Bits). row.bits ++ replicate c.args.more c.args.bit) c.self.view_is
