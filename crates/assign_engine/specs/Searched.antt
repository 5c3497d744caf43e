-- What one search from an item found: for each bin a distance, the item that it is reached from, and the turn in which it was settled.
use Rattle.std.specs.Prelude.{◌≡◌, ◌≢◌, ◌==◌, ◌+◌, ◌<◌, ◌≤◌, ◌⊎◌, ℕ, List, Option, Some, None, length, slice_index, if◌then◌else◌}
use Rattle.price_certificate.specs.Problem.{Problem, items_of, bins_of, capacity_of, weight_of, IsAllowed}
use Rattle.assign_engine.specs.Seats.{seat, used, IsSound, IsWaiting}
use Rattle.assign_engine.specs.Roll.{times_in}

-- The distances are final below the cost: no residual pair shortens one of them or passes the end.
pub record IsSearched (p : Problem) (ats : List (Option ℕ)) (us vs : List ℕ) (s : ℕ) (distances : List ℕ) (cost : ℕ) : Type 0 where
  pub bins : length distances ≡ bins_of p
  pub least : cost ≤ slice_index us s
  pub start : (b : ℕ) → IsAllowed p s b → slice_index distances b + weight_of p s b ≤ slice_index us s + slice_index vs b
  pub relaxed : (t y b : ℕ) → seat ats t ≡ Some y → slice_index distances y < cost → IsAllowed p t b → slice_index distances b + weight_of p t b ≤ slice_index distances y + (slice_index us t + slice_index vs b)
  pub full : (y : ℕ) → y < bins_of p → slice_index distances y < cost → capacity_of p y ≤ used ats y
  pub kept : (t y : ℕ) → seat ats t ≡ Some y → slice_index distances y < cost → cost ≤ slice_index distances y + slice_index us t

-- the bins that are nearer than the cost, each once
pub record IsListed (p : Problem) (distances : List ℕ) (cost : ℕ) (bins : List ℕ) : Type 0 where
  pub once : (b : ℕ) → times_in bins b ≤ 1
  pub near : (b : ℕ) → b < bins_of p → slice_index distances b < cost → 0 < times_in bins b
  pub in_range : (b : ℕ) → 0 < times_in bins b → b < bins_of p

-- how the bin b was reached: from the new item, or from an item of a bin that was settled before it
abbrev pub Reached : Problem → List (Option ℕ) → List ℕ → List ℕ → ℕ → List ℕ → List ℕ → ℕ → ℕ → Type 0
Reached p ats us vs s distances ranks b t =
    ((t ≡ s) × (slice_index distances b + weight_of p t b ≡ slice_index us t + slice_index vs b))
    ⊎ ((y : ℕ) × (seat ats t ≡ Some y) × (slice_index ranks y < slice_index ranks b) × (slice_index distances b + weight_of p t b ≡ slice_index distances y + (slice_index us t + slice_index vs b)))

-- every bin nearer than the price of the new item has a pair that leads to it
pub record HasParents (p : Problem) (ats : List (Option ℕ)) (us vs : List ℕ) (s : ℕ) (distances vias ranks : List ℕ) : Type 0 where
  pub allowed : (b : ℕ) → b < bins_of p → slice_index distances b < slice_index us s → IsAllowed p (slice_index vias b) b
  pub reached : (b : ℕ) → b < bins_of p → slice_index distances b < slice_index us s → Reached p ats us vs s distances ranks b (slice_index vias b)

-- the prices after the search
pub record IsRepriced (p : Problem) (ats : List (Option ℕ)) (us vs : List ℕ) (s : ℕ) (distances : List ℕ) (cost : ℕ) (lower higher : List ℕ) : Type 0 where
  pub items : length lower ≡ items_of p
  pub bins : length higher ≡ bins_of p
  pub new : slice_index lower s + cost ≡ slice_index us s
  pub near : (t y : ℕ) → seat ats t ≡ Some y → slice_index distances y < cost → slice_index lower t + cost ≡ slice_index us t + slice_index distances y
  pub far : (t y : ℕ) → seat ats t ≡ Some y → cost ≤ slice_index distances y → slice_index lower t ≡ slice_index us t
  pub out : (t : ℕ) → t ≢ s → seat ats t ≡ None → slice_index lower t ≡ slice_index us t
  pub near_bin : (b : ℕ) → b < bins_of p → slice_index distances b < cost → slice_index higher b + slice_index distances b ≡ slice_index vs b + cost
  pub far_bin : (b : ℕ) → b < bins_of p → cost ≤ slice_index distances b → slice_index higher b ≡ slice_index vs b

-- a bin on the way to the end
pub record IsNear (p : Problem) (distances : List ℕ) (cost b : ℕ) : Type 0 where
  pub in_range : b < bins_of p
  pub within : slice_index distances b ≤ cost

-- the pairs that lead to near bins are tight at the new prices
pub record HasTrail (p : Problem) (ats : List (Option ℕ)) (lower higher : List ℕ) (s : ℕ) (distances vias ranks : List ℕ) (cost : ℕ) : Type 0 where
  pub allowed : (b : ℕ) → IsNear p distances cost b → IsAllowed p (slice_index vias b) b
  pub tight : (b : ℕ) → IsNear p distances cost b → slice_index lower (slice_index vias b) + slice_index higher b ≡ weight_of p (slice_index vias b) b
  pub back : (b : ℕ) → IsNear p distances cost b → (slice_index vias b ≡ s) ⊎ ((y : ℕ) × (seat ats (slice_index vias b) ≡ Some y) × (slice_index ranks y < slice_index ranks b) × IsNear p distances cost y)

-- While the matching changes along the trail: one more item at the hole would give each bin its target.
pub record IsWalking (p : Problem) (old : List (Option ℕ)) (us lower higher : List ℕ) (s : ℕ) (ranks : List ℕ) (target : ℕ → ℕ) (hole : ℕ) (ats : List (Option ℕ)) : Type 0 where
  pub seats : length ats ≡ items_of p
  pub allowed : (t b : ℕ) → seat ats t ≡ Some b → IsAllowed p t b
  pub tight : (t b : ℕ) → seat ats t ≡ Some b → slice_index lower t + slice_index higher b ≡ weight_of p t b
  pub counts : (x : ℕ) → used ats x + (if hole == x then 1 else 0) ≡ target x
  pub same : (t y : ℕ) → seat old t ≡ Some y → slice_index ranks y < slice_index ranks hole → seat ats t ≡ Some y
  pub new : seat ats s ≡ None
  pub waiting : (t : ℕ) → t ≢ s → IsWaiting ats lower t → IsWaiting old us t

-- the item s was inserted
pub record IsInserted (p : Problem) (old : List (Option ℕ)) (us : List ℕ) (s : ℕ) (ats : List (Option ℕ)) (lower higher : List ℕ) : Type 0 where
  pub sound : IsSound p ats lower higher
  pub waiting : (t : ℕ) → IsWaiting ats lower t → IsWaiting old us t × (t ≢ s)
