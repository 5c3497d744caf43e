use Rattle.std.proofs.Common.{◌∙◌, ◌+◌, ◌++◌, List, [], ap, drop, refl}
use Rattle.std.specs.List.{cons_option}
use Rattle.agent_core.specs.Sharing.{offers_of}
use Rattle.agent_core.specs.declared.sharing.Offer.{Offer}
use Rattle.agent_core.proofs.OfferLemmas.{offers_of_more}
use Rattle.agent_core.proofs.sharing.add_offers.Goals as goal

pub loop-point-preserved : goal.loop-point-preserved
loop-point-preserved c =
    let series = c.args.series.now in
    let targets = c.args.targets.now in
    let lasts = c.args.lasts.now in
    let points = c.args.points.now in
    let i = c.loop-point.point-index in
    ap (λ (os : List Offer). os ++ offers_of series targets lasts points (drop (i + 1) points)) (c.in_ok-add.ensures ∙ ap (λ o. c.loop-point.all.items ++ cons_option o []) c.offer_of-offer.ensures)
    ∙ offers_of_more series targets lasts points i _ _ c.loop-point.all.items c.loop-point-test.true refl
    ∙ c.loop-point.invariant
