use Rattle.std.proofs.Common.{◌-◌}
use Rattle.price_certificate.specs.Problem.{bins_of}
use Rattle.assign_engine.specs.Searching.{IsSearching}
use Rattle.assign_engine.proofs.search.search.Given as goal

abbrev pub invariant-loop-bin : goal.invariant-loop-bin
invariant-loop-bin l = IsSearching l.instance l.matching.seating.seats l.matching.item_prices.items l.matching.bin_prices.items l.item l.tables

abbrev pub decreases-loop-bin : goal.decreases-loop-bin
decreases-loop-bin l = bins_of l.instance - l.tables.settled
