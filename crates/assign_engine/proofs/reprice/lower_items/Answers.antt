use Rattle.std.proofs.Common.{◌<◌, get_or, length, arith, ◌∙◌}
use Rattle.std.proofs.lemmas.List.{get_or_read, length-set}
use Rattle.assign_engine.proofs.Rolling.{times_at}
use Rattle.assign_engine.proofs.Repricing.{may_fall, fallen_more}
use Rattle.assign_engine.proofs.reprice.lower_items.Goals as goal

pub index_mut-requires : goal.index_mut-requires
index_mut-requires c =
    let l = c.requires.items _ (times_at c.args.items.now c.loop-item.item-index c.loop-item-test.true) in
    omega (arith, l, c.loop-item.invariant.count, c.loop-item.item_prices.ok.0)

pub overflow_sub-index_mut : goal.overflow_sub-index_mut
overflow_sub-index_mut c =
    let items = c.args.items.now in
    let n = c.loop-item.item-index in
    let now = c.loop-item.item_prices.items in
    let l = c.requires.items _ (times_at items n c.loop-item-test.true) in
    let x = get_or_read now (get_or items n 0) c.index_mut.result.now (omega (arith, l, c.loop-item.invariant.count)) c.index_mut.ensures.value 0 in
    omega (arith, x, may_fall items c.args.item_prices.now.items now c.args.by n c.loop-item-test.true c.requires.falls c.loop-item.invariant.fallen)

pub loop-item-preserved : goal.loop-item-preserved
loop-item-preserved c =
    let items = c.args.items.now in
    let n = c.loop-item.item-index in
    let now = c.loop-item.item_prices.items in
    let l = c.requires.items _ (times_at items n c.loop-item-test.true) in
    let r : get_or items n 0 < length now = omega (arith, l, c.loop-item.invariant.count) in
    let x = get_or_read now (get_or items n 0) c.index_mut.result.now r c.index_mut.ensures.value 0 in
    record {
      count = length-set now _ _ ∙ c.loop-item.invariant.count;
      fallen = fallen_more items c.args.item_prices.now.items now c.args.by n c.loop-item-test.true c.requires.falls c.loop-item.invariant.fallen c.index_mut.result.now r x;
    }
