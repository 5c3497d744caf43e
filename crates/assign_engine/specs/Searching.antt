-- What holds while the search goes on.
use Rattle.std.specs.Prelude.{◌≡◌, ◌==◌, ◌+◌, ◌<◌, ◌≤◌, ◌⊎◌, ℕ, List, Option, Some, slice_index, count_by, if◌then◌else◌}
use Rattle.price_certificate.specs.Problem.{Problem, bins_of, capacity_of, weight_of, IsAllowed}
use Rattle.assign_engine.specs.Seats.{seat, used}
use Rattle.assign_engine.specs.Roll.{times_in}
use Rattle.assign_engine.specs.SearchTables.{SearchState, HasBins}
use Rattle.assign_engine.specs.Pending.{HasPending}
use Rattle.assign_engine.specs.Searched.{HasParents, IsNear, HasTrail}
use Rattle.assign_engine.specs.declared.ends.End.{End}
use Rattle.assign_engine.specs.declared.ends.End.TheVariants.{Leave, Room, Uncover}

-- where the search ended, at this cost
abbrev pub EndsAt : Problem → List (Option ℕ) → List ℕ → ℕ → List ℕ → ℕ → End → Type 0
EndsAt p ats us s distances cost Leave = cost ≡ slice_index us s
EndsAt p ats us s distances cost (Room y) = (y < bins_of p) × (slice_index distances y ≡ cost) × (cost < slice_index us s) × (used ats y < capacity_of p y)
EndsAt p ats us s distances cost (Uncover i y) = (seat ats i ≡ Some y) × (cost ≡ slice_index distances y + slice_index us i) × (cost < slice_index us s)

-- the bin of an item that is to be uncovered is settled
abbrev pub EndSettled : List ℕ → ℕ → End → Type 0
EndSettled ranks settled Leave = Unit {0}
EndSettled ranks settled (Room y) = Unit {0}
EndSettled ranks settled (Uncover i y) = slice_index ranks y < settled

-- A bin is settled where its rank is below the count of settled bins; the rank of any other bin is the count of bins.
pub record IsSearching (p : Problem) (ats : List (Option ℕ)) (us vs : List ℕ) (s : ℕ) (tables : SearchState) : Type 0 where
  pub sizes : HasBins (bins_of p) tables
  pub least : tables.cost ≤ slice_index us s
  pub start : (b : ℕ) → IsAllowed p s b → slice_index tables.distances b + weight_of p s b ≤ slice_index us s + slice_index vs b
  pub relaxed : (t y b : ℕ) → seat ats t ≡ Some y → slice_index tables.ranks y < tables.settled → slice_index tables.distances y < tables.cost → IsAllowed p t b → slice_index tables.distances b + weight_of p t b ≤ slice_index tables.distances y + (slice_index us t + slice_index vs b)
  pub full : (y : ℕ) → y < bins_of p → slice_index tables.distances y < tables.cost → capacity_of p y ≤ used ats y
  pub kept : (t y : ℕ) → seat ats t ≡ Some y → slice_index tables.ranks y < tables.settled → tables.cost ≤ slice_index tables.distances y + slice_index us t
  pub order : (x y : ℕ) → x < bins_of p → y < bins_of p → slice_index tables.ranks y < tables.settled → slice_index tables.ranks x ≡ bins_of p → slice_index tables.distances y ≤ slice_index tables.distances x
  pub cases : (y : ℕ) → y < bins_of p → (slice_index tables.ranks y ≡ bins_of p) ⊎ (slice_index tables.ranks y < tables.settled)
  pub count : count_by (λ r. r == bins_of p) tables.ranks + tables.settled ≡ bins_of p
  pub once : (y : ℕ) → times_in tables.settled_bins y ≤ 1
  pub listed : (y : ℕ) → y < bins_of p → slice_index tables.ranks y < tables.settled → 0 < times_in tables.settled_bins y
  pub in_range : (y : ℕ) → 0 < times_in tables.settled_bins y → (y < bins_of p) × (slice_index tables.ranks y < tables.settled)
  pub parents : HasParents p ats us vs s tables.distances tables.vias tables.ranks
  pub pending : HasPending tables.distances tables.ranks tables.cost tables.pending
  pub ends : EndsAt p ats us s tables.distances tables.cost tables.end
  pub end_settled : EndSettled tables.ranks tables.settled tables.end

-- the best end once the items of the bin y may be uncovered
pub record IsNearerEnd (ats : List (Option ℕ)) (us : List ℕ) (y : ℕ) (old new : SearchState) : Type 0 where
  pub rest : new ≡ record old { cost = new.cost; end = new.end }
  pub less : new.cost ≤ old.cost
  pub least : (t : ℕ) → seat ats t ≡ Some y → new.cost ≤ slice_index old.distances y + slice_index us t
  pub same : ((new.cost ≡ old.cost) × (new.end ≡ old.end)) ⊎ ((i : ℕ) × (new.end ≡ Uncover i y) × (seat ats i ≡ Some y) × (new.cost ≡ slice_index old.distances y + slice_index us i) × (new.cost < old.cost))

-- the item that is left out has no price
abbrev pub EndFree : List ℕ → ℕ → End → Type 0
EndFree lower s Leave = slice_index lower s ≡ 0
EndFree lower s (Room y) = Unit {0}
EndFree lower s (Uncover i y) = slice_index lower i ≡ 0

-- there is a way of tight pairs to the end, or the new item has no price
abbrev pub HasWay : Problem → List (Option ℕ) → List ℕ → List ℕ → ℕ → List ℕ → List ℕ → List ℕ → ℕ → End → Type 0
HasWay p ats lower higher s distances vias ranks cost Leave = slice_index lower s ≡ 0
HasWay p ats lower higher s distances vias ranks cost (Room y) = HasTrail p ats lower higher s distances vias ranks cost × IsNear p distances cost y × (used ats y < capacity_of p y)
HasWay p ats lower higher s distances vias ranks cost (Uncover i y) = HasTrail p ats lower higher s distances vias ranks cost × IsNear p distances cost y × (seat ats i ≡ Some y) × (slice_index lower i ≡ 0)

-- how many items each bin has once the new item is inserted
abbrev pub target_of : End → List (Option ℕ) → ℕ → ℕ
target_of Leave ats x = used ats x
target_of (Room y) ats x = used ats x + (if y == x then 1 else 0)
target_of (Uncover i y) ats x = used ats x
