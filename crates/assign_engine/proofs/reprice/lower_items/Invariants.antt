use Rattle.std.proofs.Common.{◌≡◌, ◌+◌, ◌*◌, ℕ, length, take, slice_index}
use Rattle.assign_engine.specs.Roll.{times_in}
use Rattle.assign_engine.proofs.reprice.lower_items.Given as goal

abbrev pub invariant-loop-item : goal.invariant-loop-item
invariant-loop-item l = record {
  count : length l.item_prices.items ≡ length l.fn.item_prices.items;
  fallen : (t : ℕ) → slice_index l.item_prices.items t + times_in (take l.item-index l.items) t * l.by ≡ slice_index l.fn.item_prices.items t;
}
