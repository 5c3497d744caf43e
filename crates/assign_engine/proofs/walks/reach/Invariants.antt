use Rattle.std.proofs.Common.{◌≡◌}
use Rattle.price_certificate.specs.Problem.{bins_of}
use Rattle.assign_engine.specs.SearchTables.{HasBins}
use Rattle.assign_engine.proofs.walks.reach.Given as goal

abbrev pub invariant-loop-bin : goal.invariant-loop-bin
invariant-loop-bin l = record {
  same : l.tables ≡ record l.fn.tables { ranks = l.tables.ranks };
  bins : HasBins (bins_of l.instance) l.tables;
}
