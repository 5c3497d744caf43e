-- Caps on what each collector has of each job, and the best allocations of a fleet within them.
use Rattle.std.specs.Prelude.{◌≡◌, ◌≤◌, ◌<◌, ◌+◌, ◌*◌, ℕ, List, length, slice_index}
use Rattle.std.specs.Option.{option_map_or}
use Rattle.spread_certificate.specs.Within.{IsBestWithin as IsBestPlanWithin}
use Rattle.fleet.specs.Fleet.{FleetState}
use Rattle.fleet.specs.IsFleet.{IsFleet}
use Rattle.fleet_assignment.specs.Allocation.{allocation_of}
use Rattle.fleet_assignment.specs.Best.{IsBest, IsOnce, IsSound, left_by, moved_by, share_of}
use Rattle.fleet_assignment.specs.Instance.{instance_of, place_of}

-- the cap on a live collector's share of a job, which is that of its bin; others may have nothing
abbrev pub cap_at : FleetState → List ℕ → ℕ → ℕ → ℕ
cap_at fleet caps collector job = option_map_or (λ (place : ℕ). slice_index caps (place * length fleet.jobs + job)) (place_of fleet.collectors collector) 0

-- no collector has more of a job's targets than its cap
abbrev pub AreWithin : FleetState → List ℕ → List (ℕ × ℕ) → Type 0
AreWithin fleet caps pairs = (collector job : ℕ) → job < length fleet.jobs → share_of fleet pairs collector job ≤ cap_at fleet caps collector job

-- Sound; no sound allocation of the fleet covers more targets, and none that covers as many leaves fewer at draining collectors.
pub record CoversMost (fleet : FleetState) (pairs : List (ℕ × ℕ)) : Type 0 where
  pub sound : IsSound fleet pairs
  pub covers : (others : List (ℕ × ℕ)) → IsSound fleet others → length others ≤ length pairs
  pub leaves : (others : List (ℕ × ℕ)) → IsSound fleet others → length others ≡ length pairs → left_by fleet pairs ≤ left_by fleet others

-- Sound and within the caps; no sound allocation of the fleet, within the caps or not, covers more targets, and none that covers as many
-- leaves fewer at draining collectors; and none within the caps that is equal in both moves fewer from the preceding one.
pub record IsBestWithin (fleet : FleetState) (caps : List ℕ) (before pairs : List (ℕ × ℕ)) : Type 0 where
  pub sound : IsSound fleet pairs
  pub within : AreWithin fleet caps pairs
  pub covers : (others : List (ℕ × ℕ)) → IsSound fleet others → length others ≤ length pairs
  pub leaves : (others : List (ℕ × ℕ)) → IsSound fleet others → length others ≡ length pairs → left_by fleet pairs ≤ left_by fleet others
  pub moves : (others : List (ℕ × ℕ)) → IsSound fleet others → AreWithin fleet caps others → length others ≡ length pairs → left_by fleet others ≡ left_by fleet pairs → moved_by fleet before pairs ≤ moved_by fleet before others

-- the allocation of a plan that is the best within caps is the best within them
abbrev pub BestWithinIsCarriedOver : Type 0
BestWithinIsCarriedOver = (fleet : FleetState) (caps : List ℕ) (before plan : List (ℕ × ℕ)) → IsFleet fleet → IsOnce before → IsBestPlanWithin caps (instance_of fleet before) plan → IsBestWithin fleet caps before (allocation_of fleet plan)

-- the best of all allocations and the best within caps cover the most and leave the fewest
pub record BestCoverMost : Type 0 where
  pub of_all : (fleet : FleetState) (before pairs : List (ℕ × ℕ)) → IsBest fleet before pairs → CoversMost fleet pairs
  pub within : (fleet : FleetState) (caps : List ℕ) (before pairs : List (ℕ × ℕ)) → IsBestWithin fleet caps before pairs → CoversMost fleet pairs
