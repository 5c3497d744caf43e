use Rattle.std.proofs.Common.{◌≡◌, length}
use Rattle.price_certificate.specs.Problem.{items_of, bins_of}
use Rattle.assign_engine.specs.SearchTables.{HasBins}
use Rattle.assign_engine.specs.Exact.{IsBetter}
use Rattle.assign_engine.proofs.walks.walk_rounds.Given as goal

abbrev pub invariant-loop : goal.invariant-loop
invariant-loop l = record {
  better : IsBetter l.instance l.fn.matching.seating.seats l.fn.matching.item_prices.items l.matching.seating.seats l.matching.item_prices.items l.matching.bin_prices.items;
  seats : l.matching.seating.bins ≡ bins_of l.instance;
  items : length l.walks.arcs.items ≡ items_of l.instance;
  turns : length l.walks.turns.items ≡ bins_of l.instance;
  bins : HasBins (bins_of l.instance) l.walks.tables;
}
