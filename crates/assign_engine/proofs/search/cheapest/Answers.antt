use Rattle.std.proofs.Common.{◌≡◌, get_or, arith, refl}
use Rattle.std.proofs.lemmas.List.{get_or_read}
use Rattle.assign_engine.proofs.Rolling.{member_seat}
use Rattle.assign_engine.proofs.Cheapest.{cheaper_more, least_all}
use Rattle.assign_engine.proofs.search.cheapest.Goals as goal

pub index-requires : goal.index-requires
index-requires c =
    let s = member_seat c.args.matching.now.seating.seats c.members-item-items.result.now c.args.bin c.loop-item.item-index c.members-item-items.ensures c.loop-item-test.true in
    omega (arith, c.requires _ s, c.args.matching.now.item_prices.ok.0)

pub loop-item-preserved : goal.loop-item-preserved
loop-item-preserved c =
    let ats = c.args.matching.now.seating.seats in
    let us = c.args.matching.now.item_prices.items in
    let items = c.members-item-items.result.now in
    let n = c.loop-item.item-index in
    let t = get_or items n 0 in
    let i = c.loop-item.invariant in
    let s = member_seat ats items c.args.bin n c.members-item-items.ensures c.loop-item-test.true in
    let price : c.index.result.now ≡ get_or us t 0 = get_or_read us t c.index.result.now (c.requires _ s) c.index.ensures 0 in
    let more = cheaper_more ats us c.args.bin items n c.loop-item.best c.cheaper-best.result t c.index.result.now c.cheaper-best.ensures refl price s i.seated i.price i.least i.none in
    record { listed = c.members-item-items.ensures; seated = more.0; price = more.1; least = more.2; none = more.3 }

pub returns-clause-least : goal.returns-clause-least
returns-clause-least c = least_all c.args.matching.now.seating.seats c.args.matching.now.item_prices.items c.args.bin c.members-item-items.result.now c.loop-item.item-index c.loop-item.best c.loop-item-test.false c.members-item-items.ensures c.loop-item.invariant.least
