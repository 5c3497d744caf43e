use Rattle.assign_engine.specs.Exact.{HasTables, IsOnWay}
use Rattle.assign_engine.proofs.walks.find.Given as goal

abbrev pub invariant-loop : goal.invariant-loop
invariant-loop l = record {
  sizes : HasTables l.instance l.walks.arcs.items l.walks.turns.items l.walks.tables;
  way : IsOnWay l.instance l.matching.seating.seats l.matching.item_prices.items l.matching.bin_prices.items l.item l.top l.walks.stack.items l.walks.tables;
}
