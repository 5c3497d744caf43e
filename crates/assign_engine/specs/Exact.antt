-- Walks along exact pairs, from one waiting item after another.
use Rattle.std.specs.Prelude.{◌≡◌, ◌+◌, ◌<◌, ◌≤◌, ◌⊎◌, ℕ, List, Option, Some, Contains, length, slice_index, slice_set}
use Rattle.price_certificate.specs.Problem.{Problem, items_of, bins_of, capacity_of, weight_of, IsAllowed}
use Rattle.assign_engine.specs.Seats.{seat, used, IsSound, IsWaiting}
use Rattle.assign_engine.specs.SearchTables.{SearchState, HasBins}
use Rattle.assign_engine.specs.Searched.{IsNear, HasTrail}
use Rattle.assign_engine.specs.declared.ends.End.{End}
use Rattle.assign_engine.specs.declared.ends.End.TheVariants.{Room, Uncover}

-- the pair is priced at its weight
abbrev pub IsExact : Problem → List ℕ → List ℕ → ℕ → ℕ → Type 0
IsExact p us vs t b = slice_index us t + slice_index vs b ≡ weight_of p t b

-- the bin comes after the item's own by rank, if the item has one
abbrev pub IsForward : List (Option ℕ) → List ℕ → ℕ → ℕ → Type 0
IsForward ats ranks t b = (y : ℕ) → seat ats t ≡ Some y → slice_index ranks y < slice_index ranks b

-- a walk may go from the item to the bin
abbrev pub IsLink : Problem → List (Option ℕ) → List ℕ → List ℕ → List ℕ → ℕ → ℕ → Type 0
IsLink p ats us vs ranks t b = IsAllowed p t b × IsExact p us vs t b × IsForward ats ranks t b

-- the item is the one that walks, or is in a bin that the walk has reached
abbrev pub IsReached : Problem → List (Option ℕ) → ℕ → List ℕ → ℕ → ℕ → Type 0
IsReached p ats s distances cost t = (t ≡ s) ⊎ ((y : ℕ) × (seat ats t ≡ Some y) × IsNear p distances cost y)

-- no bin has a mark below the one of this walk
abbrev pub HasMarks : Problem → SearchState → Type 0
HasMarks p tables = (b : ℕ) → b < bins_of p → tables.cost ≤ slice_index tables.distances b

-- the tables of the walks are long enough
pub record HasTables (p : Problem) (arcs turns : List ℕ) (tables : SearchState) : Type 0 where
  pub items : length arcs ≡ items_of p
  pub turn_count : length turns ≡ bins_of p
  pub bins : HasBins (bins_of p) tables
  pub marks : HasMarks p tables

-- where a walk from s has come: the items that wait for their turn stand on the stack
pub record IsOnWay (p : Problem) (ats : List (Option ℕ)) (us vs : List ℕ) (s : ℕ) (top : ℕ) (stack : List ℕ) (tables : SearchState) : Type 0 where
  pub trail : HasTrail p ats us vs s tables.distances tables.vias tables.ranks tables.cost
  pub here : IsReached p ats s tables.distances tables.cost top
  pub before : (t : ℕ) → Contains stack t → IsReached p ats s tables.distances tables.cost t

-- the bin was entered from the item
pub record IsEntered (t b : ℕ) (old new : SearchState) : Type 0 where
  pub distances : new.distances ≡ slice_set old.distances b old.cost
  pub vias : new.vias ≡ slice_set old.vias b t
  pub ranks : new.ranks ≡ old.ranks
  pub cost : new.cost ≡ old.cost

-- the walk ends at the bin
abbrev pub IsWalkEnd : Problem → List (Option ℕ) → List ℕ → ℕ → End → Type 0
IsWalkEnd p ats us b end = ((end ≡ Room b) × (used ats b < capacity_of p b)) ⊎ ((i : ℕ) × (end ≡ Uncover i b) × (seat ats i ≡ Some b) × (slice_index us i ≡ 0))

-- the matching is sound, and who waits waited before
pub record IsBetter (p : Problem) (old : List (Option ℕ)) (us : List ℕ) (ats : List (Option ℕ)) (lower higher : List ℕ) : Type 0 where
  pub sound : IsSound p ats lower higher
  pub waiting : (t : ℕ) → IsWaiting ats lower t → IsWaiting old us t
