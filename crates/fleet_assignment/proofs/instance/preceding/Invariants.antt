use Rattle.std.proofs.Common.{◌≡◌, ◌++◌, ℕ, None, drop}
use Rattle.std.specs.Prelude.{option_and_then, slice_index_or}
use Rattle.fleet_assignment.specs.Instance.{bin_in}
use Rattle.fleet_assignment.specs.Tables.{preceding_from}
use Rattle.fleet_assignment.proofs.instance.preceding.Given as goal

abbrev pub invariant-loop-item : goal.invariant-loop-item
invariant-loop-item l =
    l.pairs.items ++ preceding_from (λ (t : ℕ). option_and_then (bin_in l.jobs l.collectors l.known t) (slice_index_or l.holders t None)) l.item (drop l.item l.live)
    ≡ preceding_from (λ (t : ℕ). option_and_then (bin_in l.jobs l.collectors l.known t) (slice_index_or l.holders t None)) 0 l.live
