-- Fleets in parts: each job is of one part, and a part is the fleet in which only that part's jobs list targets. Jobs, targets and collectors keep
-- their numbers, so that the same pairs are spoken of; the limits are those of the fleet, and a collector that drains does so in each part.
use Rattle.std.specs.Prelude.{◌≡◌, ◌==◌, ◌&&◌, ◌<◌, ◌+◌, ◌↔◌, ℕ, Bool, List, [], ◌∷◌, filter, map, slice_get, if◌then◌else◌}
use Rattle.std.specs.Option.{option_map_or}
use Rattle.fleet.specs.Fleet.{FleetState}
use Rattle.fleet.specs.IsFleet.{IsFleet}
use Rattle.fleet.specs.declared.known_target.KnownTarget.{KnownTarget}
use Rattle.fleet_assignment.specs.Best.{IsBest}
use Rattle.fleet_assignment.specs.Within.{IsBestWithin}

-- the part of a target is that of its job
abbrev pub part_at : (ℕ → ℕ) → List KnownTarget → ℕ → ℕ
part_at part known target = option_map_or (λ (k : KnownTarget). part k.job) (slice_get known target) 0

abbrev pub is_of_part : (ℕ → ℕ) → ℕ → List KnownTarget → ℕ × ℕ → Bool
is_of_part part p known q = part_at part known q.0 == p

-- the pairs whose targets are of a part
abbrev pub pairs_of : (ℕ → ℕ) → ℕ → List KnownTarget → List (ℕ × ℕ) → List (ℕ × ℕ)
pairs_of part p known pairs = filter (is_of_part part p known) pairs

-- what the jobs of a part list, from a job on; the others list nothing
abbrev pub lists_from : (ℕ → ℕ) → ℕ → ℕ → List (List (List ℕ)) → List (List (List ℕ))
lists_from part p job [] = []
lists_from part p job (sources ∷ listed) = (if part job == p then sources else map (λ (numbers : List ℕ). []) sources) ∷ lists_from part p (job + 1) listed

-- the fleet in which only a part's jobs list targets
abbrev pub part_of : (ℕ → ℕ) → ℕ → FleetState → FleetState
part_of part p fleet = record fleet { listed = lists_from part p 0 fleet.listed }

-- An allocation is the best of a fleet exactly if it is the best in each part, however the jobs are parted.
abbrev pub BestIsBestInParts : Type 0
BestIsBestInParts =
    (part : ℕ → ℕ) (parts : ℕ) (fleet : FleetState) (before pairs : List (ℕ × ℕ)) → IsFleet fleet → ((job : ℕ) → part job < parts)
    → IsBest fleet before pairs ↔ ((p : ℕ) → p < parts → IsBest (part_of part p fleet) (pairs_of part p fleet.known before) (pairs_of part p fleet.known pairs))

-- So it is within caps, which are of a collector's share of a job each.
abbrev pub BestWithinIsSoInParts : Type 0
BestWithinIsSoInParts =
    (part : ℕ → ℕ) (parts : ℕ) (fleet : FleetState) (caps : List ℕ) (before pairs : List (ℕ × ℕ)) → IsFleet fleet → ((job : ℕ) → part job < parts)
    → IsBestWithin fleet caps before pairs ↔ ((p : ℕ) → p < parts → IsBestWithin (part_of part p fleet) caps (pairs_of part p fleet.known before) (pairs_of part p fleet.known pairs))
