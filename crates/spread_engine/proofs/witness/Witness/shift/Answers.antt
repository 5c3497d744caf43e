use Rattle.std.proofs.Common.{◌≡◌, ◌+◌, ◌≤◌, IsTrue, length, set, arith, subst, sym}
use Rattle.std.proofs.lemmas.List.{get_or_read}
use Rattle.price_certificate.specs.Assignment.{kept}
use Rattle.price_certificate.proofs.Weights.{capacity-most}
use Rattle.spread_engine.specs.Witness.{Held, IsShifted, MayShift, pair_at}
use Rattle.spread_engine.proofs.WitnessLemmas.{shifted-one, kept-one, counted-one}
use Rattle.spread_engine.proofs.witness.Witness.shift.Goals as goal

pub recount-requires-clause-fits : goal.recount-requires-clause-fits
recount-requires-clause-fits c =
    let p = c.args.instance.now in
    let i = c.self.inside in
    let yes : IsTrue c.may_shift.result = cc in
    let may : MayShift p i.pairs.items (length i.uses.items) c.args.place c.args.bin = subst (λ (h : Held). MayShift p h.pairs h.bins c.args.place c.args.bin) (sym c.self.view_is) (c.may_shift.ensures yes) in
    omega (arith, may.room, capacity-most p c.args.bin, c.is_problem.ensures.reach.items, c.self.invariant.uses c.args.bin may.bin_in_range)

pub invariant_of-self : goal.invariant_of-self
invariant_of-self c =
    let p = c.args.instance.now in
    let i = c.self.inside in
    let q = c.index.result.now in
    let yes : IsTrue c.may_shift.result = cc in
    let may : MayShift p i.pairs.items (length i.uses.items) c.args.place c.args.bin = subst (λ (h : Held). MayShift p h.pairs h.bins c.args.place c.args.bin) (sym c.self.view_is) (c.may_shift.ensures yes) in
    let at : q ≡ pair_at i.pairs.items c.args.place = get_or_read i.pairs.items c.args.place q may.place_in_range c.index.ensures (0, 0) in
    counted-one i.pairs.items i.uses.items c.recount.new.uses.items c.args.place c.args.bin q c.self.invariant at may.place_in_range c.recount.ensures.length c.recount.ensures.uses

pub returns-clause-shifted : goal.returns-clause-shifted
returns-clause-shifted c =
    let p = c.args.instance.now in
    let i = c.self.inside in
    let q = c.index.result.now in
    let yes : IsTrue c.may_shift.result = cc in
    let may : MayShift p i.pairs.items (length i.uses.items) c.args.place c.args.bin = subst (λ (h : Held). MayShift p h.pairs h.bins c.args.place c.args.bin) (sym c.self.view_is) (c.may_shift.ensures yes) in
    let at : q ≡ pair_at i.pairs.items c.args.place = get_or_read i.pairs.items c.args.place q may.place_in_range c.index.ensures (0, 0) in
    subst (λ (h : Held). IsShifted p h.pairs (set i.pairs.items c.args.place (q.0, c.args.bin))) c.self.view_is (shifted-one p i.pairs.items (length i.uses.items) c.args.place c.args.bin q may at)

pub returns-clause-kept : goal.returns-clause-kept
returns-clause-kept c =
    let p = c.args.instance.now in
    let i = c.self.inside in
    let q = c.index.result.now in
    let yes : IsTrue c.may_shift.result = cc in
    let may : MayShift p i.pairs.items (length i.uses.items) c.args.place c.args.bin = subst (λ (h : Held). MayShift p h.pairs h.bins c.args.place c.args.bin) (sym c.self.view_is) (c.may_shift.ensures yes) in
    subst (λ (h : Held). kept p h.pairs ≤ kept p (set i.pairs.items c.args.place (q.0, c.args.bin)) + 1) c.self.view_is (kept-one p i.pairs.items (length i.uses.items) c.args.place c.args.bin q may)
