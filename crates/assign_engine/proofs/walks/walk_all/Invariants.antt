use Rattle.std.proofs.Common.{◌≡◌}
use Rattle.price_certificate.specs.Problem.{bins_of}
use Rattle.assign_engine.specs.Exact.{HasTables, IsBetter}
use Rattle.assign_engine.proofs.walks.walk_all.Given as goal

abbrev pub invariant-loop-item : goal.invariant-loop-item
invariant-loop-item l = record {
  better : IsBetter l.instance l.fn.matching.seating.seats l.fn.matching.item_prices.items l.matching.seating.seats l.matching.item_prices.items l.matching.bin_prices.items;
  bins : l.matching.seating.bins ≡ bins_of l.instance;
  sizes : HasTables l.instance l.walks.arcs.items l.walks.turns.items l.walks.tables;
}
