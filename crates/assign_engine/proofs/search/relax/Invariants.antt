use Rattle.std.proofs.Common.{◌≡◌}
use Rattle.price_certificate.specs.Problem.{row_of}
use Rattle.assign_engine.specs.Changed.{IsRelaxed}
use Rattle.assign_engine.proofs.search.relax.Given as goal

abbrev pub invariant-loop-bin : goal.invariant-loop-bin
invariant-loop-bin l = record {
  row : l.bin-items ≡ row_of l.instance l.item;
  relaxed : IsRelaxed l.instance l.matching.seating.seats l.matching.bin_prices.items l.item l.base l.bin-index l.fn.tables l.tables;
}
