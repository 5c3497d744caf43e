use Rattle.std.proofs.Common.{◌≡◌, ◌-◌, ◌*◌, ap, ◌∙◌, arith, length}
use Rattle.reach_rules.specs.Bits.{Bits}
use Rattle.reach_rules.proofs.BitLemmas.{bits_stay}
use Rattle.reach_rules.proofs.bits.BitRow.reserve.Goals as goal

pub returns-clause-bits : goal.returns-clause-bits
returns-clause-bits c =
    let spare : 64 * length c.self.inside.words.items - c.self.inside.count ≡ c.args.self.now.spare = ap (λ (row : Bits). row.spare) c.self.view_is in
    bits_stay c.self.inside.words.items c.resize.new.self.items c.self.inside.count c.self.invariant.0
    (λ k less. c.resize.ensures.by_index.0 k 0 (omega (arith, less, spare, c.spare.ensures, c.if-more-spare.false, c.in_ok-words.ensures.room)) (omega (arith, less)))
    ∙ ap (λ (row : Bits). row.bits) c.self.view_is
