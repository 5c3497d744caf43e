use Rattle.std.proofs.Common.{◌≡◌, length}
use Rattle.price_certificate.specs.Problem.{items_of, bins_of}
use Rattle.assign_engine.specs.Seats.{IsInserting}
use Rattle.assign_engine.specs.SearchTables.{HasBins}
use Rattle.assign_engine.proofs.engine.insert_all.Given as goal

abbrev pub invariant-loop-item : goal.invariant-loop-item
invariant-loop-item l = record {
  inserting : IsInserting l.instance l.fn.matching.seating.seats l.item l.matching.seating.seats l.matching.item_prices.items l.matching.bin_prices.items l.searches l.settled;
  bins : l.matching.seating.bins ≡ bins_of l.instance;
  sizes : HasBins (bins_of l.instance) l.tables;
  arcs : length l.walks.arcs.items ≡ items_of l.instance;
  turns : length l.walks.turns.items ≡ bins_of l.instance;
  marks : HasBins (bins_of l.instance) l.walks.tables;
}
