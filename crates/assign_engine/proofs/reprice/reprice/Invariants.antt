use Rattle.std.proofs.Common.{◌≡◌, take}
use Rattle.assign_engine.specs.Repriced.{IsRepricing}
use Rattle.assign_engine.proofs.reprice.reprice.Given as goal

abbrev pub invariant-loop-bin : goal.invariant-loop-bin
invariant-loop-bin l = record {
  seating : l.matching.seating ≡ l.fn.matching.seating;
  repricing : IsRepricing l.fn.matching.seating.seats l.fn.matching.item_prices.items l.fn.matching.bin_prices.items l.tables.distances l.cost (take l.bin-index l.bin-items) l.matching.item_prices.items l.matching.bin_prices.items;
}
