-- The engine's matching: for each item the bin that it is in.
use Rattle.std.specs.Prelude.{◌≡◌, ◌+◌, ◌*◌, ◌<◌, ◌≤◌, ℕ, Bool, List, [], ◌∷◌, Option, Some, None, length, slice_index, slice_index_or, count_by, take, is_none, min}
use Rattle.price_certificate.specs.Problem.{Problem, items_of, bins_of, capacity_of, weight_of, is_bin, IsAllowed}
use Rattle.assign_engine.specs.Usable.{IsHome, claims_below, movers_below}

-- the entry is this bin
abbrev pub sits : ℕ → Option ℕ → Bool
sits b o = is_bin o b

abbrev pub seat : List (Option ℕ) → ℕ → Option ℕ
seat ats t = slice_index_or ats t None

-- how many items the bin has
abbrev pub used : List (Option ℕ) → ℕ → ℕ
used ats b = count_by (sits b) ats

-- the pairs in order of items, the first item being t
abbrev pub pairs_from : ℕ → List (Option ℕ) → List (ℕ × ℕ)
pairs_from t [] = []
pairs_from t (None ∷ ats) = pairs_from (t + 1) ats
pairs_from t (Some b ∷ ats) = (t, b) ∷ pairs_from (t + 1) ats

abbrev pub pairs_of : List (Option ℕ) → List (ℕ × ℕ)
pairs_of ats = pairs_from 0 ats

-- Allowed pairs are priced at their weight or above, matched ones exactly; no bin is above its cap, and bins with a price are full.
pub record IsSound (p : Problem) (ats : List (Option ℕ)) (us vs : List ℕ) : Type 0 where
  pub seats : length ats ≡ items_of p
  pub items : length us ≡ items_of p
  pub bins : length vs ≡ bins_of p
  pub priced : (t b : ℕ) → IsAllowed p t b → weight_of p t b ≤ slice_index us t + slice_index vs b
  pub allowed : (t b : ℕ) → seat ats t ≡ Some b → IsAllowed p t b
  pub tight : (t b : ℕ) → seat ats t ≡ Some b → slice_index us t + slice_index vs b ≡ weight_of p t b
  pub within : (b : ℕ) → used ats b ≤ capacity_of p b
  pub full : (b : ℕ) → 0 < slice_index vs b → capacity_of p b ≤ used ats b

-- An item with a price that is in no bin: it is to be inserted.
abbrev pub IsWaiting : List (Option ℕ) → List ℕ → ℕ → Type 0
IsWaiting ats us t = (seat ats t ≡ None) × (0 < slice_index us t)

-- Of the first n items those with a usable pair are where they were, and no other item is in a bin.
pub record IsStart (p : Problem) (n : ℕ) (ats : List (Option ℕ)) : Type 0 where
  pub seats : length ats ≡ items_of p
  pub later : (t : ℕ) → n ≤ t → seat ats t ≡ None
  pub home : (t b : ℕ) → seat ats t ≡ Some b → IsHome p t b
  pub within : (b : ℕ) → used ats b ≤ capacity_of p b
  pub claims : (b : ℕ) → used ats b ≡ min (claims_below p n b) (capacity_of p b)
  pub movers : count_by is_none ats + n ≡ movers_below p n + items_of p

-- The items below n are inserted; searches were made for items that were in no bin at the start.
pub record IsInserting (p : Problem) (start : List (Option ℕ)) (n : ℕ) (ats : List (Option ℕ)) (us vs : List ℕ) (searches settled : ℕ) : Type 0 where
  pub sound : IsSound p ats us vs
  pub waiting : (t : ℕ) → IsWaiting ats us t → (n ≤ t) × (seat start t ≡ None)
  pub search_count : searches ≤ count_by is_none (take n start)
  pub settled_count : settled ≤ searches * bins_of p
