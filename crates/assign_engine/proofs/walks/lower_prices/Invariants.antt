use Rattle.std.proofs.Common.{◌≡◌}
use Rattle.assign_engine.specs.Exact.{IsBetter}
use Rattle.assign_engine.proofs.walks.lower_prices.Given as goal

abbrev pub invariant-loop-item : goal.invariant-loop-item
invariant-loop-item l = record {
  better : IsBetter l.instance l.fn.matching.seating.seats l.fn.matching.item_prices.items l.matching.seating.seats l.matching.item_prices.items l.matching.bin_prices.items;
  seating : l.matching.seating ≡ l.fn.matching.seating;
}
