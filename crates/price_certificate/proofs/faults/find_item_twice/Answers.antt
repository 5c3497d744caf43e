use Rattle.std.proofs.Common.{get_or, sym, ◌∙◌}
use Rattle.price_certificate.proofs.Finding.{found_item_twice, marked}
use Rattle.price_certificate.proofs.faults.find_item_twice.Goals as goal

pub returns-then-index : goal.returns-then-index
returns-then-index c =
    let item = (get_or c.args.pairs.now c.loop-place.place (0, 0)).0 in
    sym (found_item_twice c.args.pairs.now c.loop-place.place c.loop-place-test.true c.loop-place.invariant.none
    (marked c.loop-place.seen.items c.args.items _ item c.index.result.now c.loop-place.invariant.each (c.requires c.loop-place.place c.loop-place-test.true) c.loop-place.invariant.marks c.index.ensures ∙ c.if-index.true))
