use Rattle.std.proofs.Common.{◌≡◌}
use Rattle.price_certificate.specs.Problem.{bins_of}
use Rattle.assign_engine.specs.SearchTables.{HasBins}
use Rattle.assign_engine.proofs.walks.rank_bins.Given as goal

abbrev pub invariant-loop-item : goal.invariant-loop-item
invariant-loop-item l = record {
  same : l.tables ≡ record l.fn.tables { ranks = l.tables.ranks };
  bins : HasBins (bins_of l.instance) l.tables;
}

abbrev pub invariant-loop-place : goal.invariant-loop-place
invariant-loop-place l = record {
  same : l.tables ≡ record l.fn.tables { ranks = l.tables.ranks };
  bins : HasBins (bins_of l.instance) l.tables;
}

abbrev pub invariant-loop-item-2 : goal.invariant-loop-item-2
invariant-loop-item-2 l = record {
  same : l.tables ≡ record l.fn.tables { ranks = l.tables.ranks };
  bins : HasBins (bins_of l.instance) l.tables;
}
