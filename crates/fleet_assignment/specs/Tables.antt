-- Tables that are filled from lists of pairs. No public contract cites them.
use Rattle.std.specs.Prelude.{◌≡◌, ◌<◌, slice_index_or, ℕ, ◌+◌, ◌==◌, List, [], ◌∷◌, ◌++◌, Option, None, Some, if◌then◌else◌, length}
use Rattle.std.specs.Option.{option_map, option_to_list}
use Rattle.fleet_assignment.specs.Beside.{beside}

-- the bins before, as pairs of an item and a bin
abbrev pub preceding_from : (ℕ → Option ℕ) → ℕ → List ℕ → List (ℕ × ℕ)
preceding_from bin item [] = []
preceding_from bin item (target ∷ targets) = option_to_list (option_map (λ (b : ℕ). (item, b)) (bin target)) ++ preceding_from bin (item + 1) targets

-- what stands beside each number
pub record ArePlaced (pairs : List (ℕ × ℕ)) (places : List (Option ℕ)) : Type 0 where
  pub at : (n : ℕ) → n < length places → slice_index_or places n None ≡ beside pairs n

-- the first of two that there is
abbrev pub first_of : Option ℕ → Option ℕ → Option ℕ
first_of None other = other
first_of (Some x) other = Some x

-- what stands beside a number is put there, where nothing stands yet
pub record SetsPlace (number other : ℕ) (old new : List (Option ℕ)) : Type 0 where
  pub same : length new ≡ length old
  pub at : (n : ℕ) → n < length old → slice_index_or new n None ≡ (if number == n then first_of (slice_index_or old n None) (Some other) else slice_index_or old n None)

pub record PlacesAll (pairs : List (ℕ × ℕ)) (old new : List (Option ℕ)) : Type 0 where
  pub same : length new ≡ length old
  pub at : (n : ℕ) → n < length old → slice_index_or new n None ≡ first_of (slice_index_or old n None) (beside pairs n)
