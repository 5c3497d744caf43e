use Rattle.std.proofs.Common.{◌≡◌, ℕ, List, false, get_or, ap, sym, ◌∙◌, rules}
use Rattle.std.specs.Prelude.{nat_lt}
use Rattle.reach_rules.specs.Bits.{Bits, bit_in}
use Rattle.reach_rules.proofs.BitLemmas.{read_within, read_past}
use Rattle.reach_rules.proofs.bits.BitRow.has.Goals as goal

pub returns-then-number-self : goal.returns-then-number-self
returns-then-number-self c =
    c.is_set.ensures ∙ ap (λ (words : List ℕ). bit_in words c.args.number) c.as_slice.ensures.value ∙ sym (read_within c.self.inside.words.items c.self.inside.count c.args.number c.if-number-self.true)
    ∙ ap (λ (row : Bits). get_or row.bits c.args.number false) c.self.view_is

pub returns-else-number-self : goal.returns-else-number-self
returns-else-number-self c =
    let past : nat_lt c.args.number c.self.inside.count ≡ false = search rules in
    past ∙ sym (read_past c.self.inside.words.items c.self.inside.count c.args.number c.if-number-self.false) ∙ ap (λ (row : Bits). get_or row.bits c.args.number false) c.self.view_is
