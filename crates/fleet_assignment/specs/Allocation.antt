-- The way back from a plan's pairs of items and bins to pairs of targets and collectors.
use Rattle.std.specs.Prelude.{ℕ, ◌+◌, ◌/◌, List, [], ◌∷◌, ◌++◌, Option, length, option_and_then, slice_get}
use Rattle.std.specs.Option.{option_map, option_to_list}
use Rattle.fleet.specs.declared.collector.Collector.{Collector}
use Rattle.fleet.specs.Fleet.{FleetState, live_of}
use Rattle.fleet_assignment.specs.Beside.{beside}

-- the pair of a target and the collector of its bin
abbrev pub pair_by : ℕ → List Collector → Option ℕ → ℕ → Option (ℕ × ℕ)
pair_by jobs collectors bin target = option_and_then (λ (b : ℕ). option_map (λ (c : Collector). (target, c.id)) (slice_get collectors (b / jobs))) bin

-- the pairs of the targets, by the bin of each item
abbrev pub pairs_from : ℕ → List Collector → (ℕ → Option ℕ) → ℕ → List ℕ → List (ℕ × ℕ)
pairs_from jobs collectors bin item [] = []
pairs_from jobs collectors bin item (target ∷ targets) = option_to_list (pair_by jobs collectors (bin item) target) ++ pairs_from jobs collectors bin (item + 1) targets

-- a plan's pairs as pairs of a target and a collector, in order of target
unfoldable pub allocation_of : FleetState → List (ℕ × ℕ) → List (ℕ × ℕ)
allocation_of fleet pairs = pairs_from (length fleet.jobs) fleet.collectors (beside pairs) 0 (live_of fleet)
