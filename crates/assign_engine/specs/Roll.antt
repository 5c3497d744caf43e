-- The items of each bin, beside the bin of each item.
use Rattle.std.specs.Prelude.{◌≡◌, ◌==◌, ℕ, List, [], Option, length, slice_index_or, count_by, if◌then◌else◌}
use Rattle.assign_engine.specs.Usable.{one_if}
use Rattle.assign_engine.specs.Seats.{sits, seat, used}

-- What contracts see of a `Seating`: the bin of each item, and how many bins there are.
pub record Seated : Type 0 where
  pub seats : List (Option ℕ)
  pub bins : ℕ

-- how often an item stands in a list
abbrev pub times_in : List ℕ → ℕ → ℕ
times_in items item = count_by (λ other. other == item) items

-- the items of a bin
abbrev pub roll_of : List (List ℕ) → ℕ → List ℕ
roll_of rolls bin = slice_index_or rolls bin []

-- how often the item stands in the list of a bin, at another item, where its own bin is this one
abbrev pub share_of : Option ℕ → ℕ → ℕ → ℕ → ℕ
share_of seat item bin other = if item == other then one_if (sits bin seat) else 0

-- each item stands once in the list of its bin and in no other, and each list is as long as its bin has items
pub record IsRoll (seats : List (Option ℕ)) (rolls : List (List ℕ)) : Type 0 where
  pub each : (bin item : ℕ) → times_in (roll_of rolls bin) item ≡ one_if (sits bin (seat seats item))
  pub sizes : (bin : ℕ) → length (roll_of rolls bin) ≡ used seats bin
