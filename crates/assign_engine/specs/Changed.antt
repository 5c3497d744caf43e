-- How the tables of a search change as pairs are relaxed.
use Rattle.std.specs.Prelude.{◌≡◌, ◌+◌, ◌<◌, ◌≤◌, ◌⊎◌, ℕ, List, Option, Some, Contains, length, slice_index}
use Rattle.price_certificate.specs.Problem.{Problem, bins_of, capacity_of, row_of, weight_of, IsAllowed}
use Rattle.assign_engine.specs.Seats.{seat, used}
use Rattle.assign_engine.specs.SearchTables.{SearchState}
use Rattle.assign_engine.specs.declared.ends.End.TheVariants.{Room}

-- a way of this length to a bin, over an item to which there is a way of length base
abbrev pub WayOver : Problem → List ℕ → ℕ → ℕ → ℕ → ℕ → ℕ → Type 0
WayOver p vs t base via b length = (via ≡ t) × IsAllowed p t b × (length + weight_of p t b ≡ base + slice_index vs b)

-- a way of this length to a bin, over an item of the bin y, to which there is a way of length base
abbrev pub WayFrom : Problem → List (Option ℕ) → List ℕ → List ℕ → ℕ → ℕ → ℕ → ℕ → ℕ → Type 0
WayFrom p ats us vs y base via b length = (seat ats via ≡ Some y) × IsAllowed p via b × (length + weight_of p via b ≡ base + (slice_index us via + slice_index vs b))

-- what the tables have of the bin is as it was
pub record IsSame (old new : SearchState) (b : ℕ) : Type 0 where
  pub distance : slice_index new.distances b ≡ slice_index old.distances b
  pub via : slice_index new.vias b ≡ slice_index old.vias b

-- A shorter way to the bin was found. If it is nearer than the best end it is on the frontier, and if it has room it is an end.
pub record IsLowered (p : Problem) (ats : List (Option ℕ)) (Way : ℕ → ℕ → ℕ → Type 0) (old new : SearchState) (b : ℕ) : Type 0 where
  pub below : slice_index new.distances b < slice_index old.distances b
  pub way : Way (slice_index new.vias b) b (slice_index new.distances b)
  pub entry : slice_index new.distances b < new.cost → Contains new.pending (slice_index new.distances b, b)
  pub room : used ats b < capacity_of p b → new.cost ≤ slice_index new.distances b

-- the best end is a bin with room that is nearer than the best end was
pub record IsNewEnd (p : Problem) (ats : List (Option ℕ)) (old new : SearchState) : Type 0 where
  pub bin : ℕ
  pub in_range : bin < bins_of p
  pub is_room : new.end ≡ Room bin
  pub distance : slice_index new.distances bin ≡ new.cost
  pub less : new.cost < old.cost
  pub room : used ats bin < capacity_of p bin

-- bins were lowered by such ways, and the best end is as it was or one of them
pub record IsChanged (p : Problem) (ats : List (Option ℕ)) (Way : ℕ → ℕ → ℕ → Type 0) (old new : SearchState) : Type 0 where
  pub distance_count : length new.distances ≡ length old.distances
  pub via_count : length new.vias ≡ length old.vias
  pub ranks : new.ranks ≡ old.ranks
  pub settled : new.settled ≡ old.settled
  pub settled_bins : new.settled_bins ≡ old.settled_bins
  pub change : (b : ℕ) → IsSame old new b ⊎ IsLowered p ats Way old new b
  pub kept : (e : ℕ × ℕ) → Contains old.pending e → Contains new.pending e
  pub ends : ((new.cost ≡ old.cost) × (new.end ≡ old.end)) ⊎ IsNewEnd p ats old new

-- a bin whose distance was lowered is noted, on the frontier or as an end
pub record IsNoted (p : Problem) (ats : List (Option ℕ)) (b : ℕ) (old new : SearchState) : Type 0 where
  pub distances : new.distances ≡ old.distances
  pub vias : new.vias ≡ old.vias
  pub ranks : new.ranks ≡ old.ranks
  pub settled : new.settled ≡ old.settled
  pub settled_bins : new.settled_bins ≡ old.settled_bins
  pub kept : (e : ℕ × ℕ) → Contains old.pending e → Contains new.pending e
  pub entry : slice_index old.distances b < new.cost → Contains new.pending (slice_index old.distances b, b)
  pub room : used ats b < capacity_of p b → new.cost ≤ slice_index old.distances b
  pub ends : ((new.cost ≡ old.cost) × (new.end ≡ old.end)) ⊎ ((new.end ≡ Room b) × (new.cost ≡ slice_index old.distances b) × (slice_index old.distances b < old.cost) × (used ats b < capacity_of p b))

-- the pairs of the item t with the first n bins of its row were relaxed
pub record IsRelaxed (p : Problem) (ats : List (Option ℕ)) (vs : List ℕ) (t base n : ℕ) (old new : SearchState) : Type 0 where
  pub changed : IsChanged p ats (WayOver p vs t base) old new
  pub done : (k : ℕ) → k < n → slice_index new.distances (slice_index (row_of p t) k) + weight_of p t (slice_index (row_of p t) k) ≤ base + slice_index vs (slice_index (row_of p t) k)

-- the pairs of the first n of the items were relaxed, all of which are in the bin y
pub record IsExpanding (p : Problem) (ats : List (Option ℕ)) (us vs : List ℕ) (y base : ℕ) (items : List ℕ) (n : ℕ) (old new : SearchState) : Type 0 where
  pub changed : IsChanged p ats (WayFrom p ats us vs y base) old new
  pub done : (k b : ℕ) → k < n → IsAllowed p (slice_index items k) b → slice_index new.distances b + weight_of p (slice_index items k) b ≤ base + (slice_index us (slice_index items k) + slice_index vs b)

-- the pairs of all items in the bin y were relaxed, unless there is an end that is no farther than the bin
pub record IsExpanded (p : Problem) (ats : List (Option ℕ)) (us vs : List ℕ) (y base : ℕ) (old new : SearchState) : Type 0 where
  pub changed : IsChanged p ats (WayFrom p ats us vs y base) old new
  pub done : (t b : ℕ) → base < new.cost → seat ats t ≡ Some y → IsAllowed p t b → slice_index new.distances b + weight_of p t b ≤ base + (slice_index us t + slice_index vs b)
