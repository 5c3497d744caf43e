use Rattle.std.proofs.Common.{◌≡◌, ◌++◌, ℕ, None, drop}
use Rattle.std.specs.Prelude.{slice_index_or}
use Rattle.fleet_assignment.specs.Allocation.{pairs_from}
use Rattle.fleet_assignment.proofs.allocation.pairs_by.Given as goal

abbrev pub invariant-loop-item : goal.invariant-loop-item
invariant-loop-item l =
    l.pairs.items ++ pairs_from l.jobs l.collectors (λ (i : ℕ). slice_index_or l.bins i None) l.item (drop l.item l.live) ≡ pairs_from l.jobs l.collectors (λ (i : ℕ). slice_index_or l.bins i None) 0 l.live
