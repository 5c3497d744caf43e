use Rattle.std.proofs.Common.{◌≡◌, ◌+◌, ℕ, get_or, arith, refl, ap, ◌∙◌, subst}
use Rattle.std.proofs.lemmas.List.{get_or_read}
use Rattle.assign_engine.specs.Changed.{IsExpanded}
use Rattle.assign_engine.proofs.Rolling.{member_seat}
use Rattle.assign_engine.proofs.Relaxing.{expanding_more, expanded_all}
use Rattle.assign_engine.proofs.search.expand.Goals as goal

pub index-requires : goal.index-requires
index-requires c =
    let s = member_seat c.args.matching.now.seating.seats c.members-item-items.result.now c.args.bin c.loop-item.item-index c.members-item-items.ensures c.loop-item-test.true in
    omega (arith, c.requires.seated _ _ s, c.requires.items, c.args.matching.now.item_prices.ok.0)

pub loop-item-preserved : goal.loop-item-preserved
loop-item-preserved c =
    let p = c.args.instance.now in
    let ats = c.args.matching.now.seating.seats in
    let us = c.args.matching.now.item_prices.items in
    let vs = c.args.matching.now.bin_prices.items in
    let items = c.members-item-items.result.now in
    let n = c.loop-item.item-index in
    let t = get_or items n 0 in
    let s = member_seat ats items c.args.bin n c.members-item-items.ensures c.loop-item-test.true in
    let price : c.from.result ≡ get_or us t 0 = c.from.ensures ∙ get_or_read us t c.index.result.now (omega (arith, c.requires.seated _ _ s, c.requires.items)) c.index.ensures 0 in
    record {
      listed = c.members-item-items.ensures;
      expanding = expanding_more p ats us vs c.args.bin c.distance-base.result items n c.args.tables.now c.loop-item.tables c.loop-item.invariant.expanding t _ c.relax.new.tables refl (ap (λ (m : ℕ). c.distance-base.result + m) price) s c.in_ok-relax.ensures;
    }

pub returns : goal.returns
returns c =
    let p = c.args.instance.now in
    let ats = c.args.matching.now.seating.seats in
    let us = c.args.matching.now.item_prices.items in
    let vs = c.args.matching.now.bin_prices.items in
    let items = c.members-item-items.result.now in
    let all = expanded_all p ats us vs c.args.bin c.distance-base.result items c.loop-item.item-index c.args.tables.now c.loop-item.tables c.loop-item.invariant.expanding c.loop-item-test.false c.members-item-items.ensures in
    subst (λ (m : ℕ). IsExpanded p ats us vs c.args.bin m c.args.tables.now c.loop-item.tables) c.distance-base.ensures all
