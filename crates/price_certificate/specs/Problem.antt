-- An instance of the assignment problem with capacities: items, bins with limits, some of which drain, the pairs of an item
-- and a bin that are allowed, and the pairs of the preceding assignment.
use Rattle.std.specs.Prelude.{◌≡◌, ◌==◌, ◌+◌, ◌*◌, ◌<◌, ◌≤◌, ℕ, Bool, false, List, Option, Some, None, Contains, All, [], ◌∷◌, length, slice_index, slice_index_or, sum_by, count_by, is_some, if◌then◌else◌, min}
use Rattle.std.specs.List.{list_any}
use Rattle.std.specs.List.Sorted.{IsStrictlyIncreasing}
use Rattle.price_certificate.specs.declared.shape.TheConstants.{MOST_BINS, MOST_ITEMS, MOST_PAIRS}
use Rattle.price_certificate.specs.declared.version.Version.{Version}
use Rattle.price_certificate.specs.declared.version.Version.TheVariants.{One, Two}

-- What contracts see of an `Instance`: its version, the limit of each bin and whether it drains, for each item the bins that
-- it may use in ascending order, and for each item the bin where it was.
pub record Problem : Type 0 where
  pub version : Version
  pub limits : List ℕ
  pub draining : List Bool
  pub rows : List (List ℕ)
  pub before : List (Option ℕ)

abbrev pub items_of : Problem → ℕ
items_of p = length p.rows

abbrev pub bins_of : Problem → ℕ
bins_of p = length p.limits

-- the bin drains: it is to be left
abbrev pub drains : Problem → ℕ → Bool
drains p bin = slice_index_or p.draining bin false

-- the bins that an item may use
unfoldable pub row_of : Problem → ℕ → List ℕ
row_of p item = slice_index_or p.rows item []

-- an item may use a bin
abbrev pub IsAllowed : Problem → ℕ → ℕ → Type 0
IsAllowed p item bin = Contains (row_of p item) bin

-- the bin where an item was
abbrev pub before_of : Problem → ℕ → Option ℕ
before_of p item = slice_index_or p.before item None

-- this is the bin
abbrev pub is_bin : Option ℕ → ℕ → Bool
is_bin None bin = false
is_bin (Some other) bin = other == bin

-- the pair is in the preceding assignment
abbrev pub was_in : Problem → ℕ → ℕ → Bool
was_in p item bin = is_bin (before_of p item) bin

-- how many pairs the preceding assignment has
abbrev pub before_count : Problem → ℕ
before_count p = count_by is_some p.before

-- how many items a bin may have, by its limit: a limit of 0 is no limit, and no bin may have more than there are items
unfoldable pub capacity_by : ℕ → ℕ → ℕ
capacity_by items limit = if limit == 0 then items else min limit items

abbrev pub capacity_of : Problem → ℕ → ℕ
capacity_of p bin = capacity_by (items_of p) (slice_index p.limits bin)

-- What a pair is worth. Covering an item outweighs all else; in version 2 a bin that does not drain outweighs all that can be
-- kept in place; and keeping an item in place outweighs nothing else. This is the one place that knows the levels of weight.
abbrev pub cover_worth : Version → ℕ → ℕ
cover_worth One items = items + 1
cover_worth Two items = (items + 1) * (items + 1)

abbrev pub steady_worth : Version → ℕ → ℕ
steady_worth One items = 0
steady_worth Two items = items + 1

unfoldable pub weight_by : Version → ℕ → Bool → Bool → ℕ
weight_by version items draining before = cover_worth version items + (if draining then 0 else steady_worth version items) + (if before then 1 else 0)

abbrev pub weight_of : Problem → ℕ → ℕ → ℕ
weight_of p item bin = weight_by p.version (items_of p) (drains p bin) (was_in p item bin)

-- what the pair of a bin and an item that was elsewhere is worth
abbrev pub bin_worth : Problem → ℕ → ℕ
bin_worth p bin = weight_by p.version (items_of p) (drains p bin) false

-- no pair is worth more
unfoldable pub top_weight : Problem → ℕ
top_weight p = cover_worth p.version (items_of p) + steady_worth p.version (items_of p) + 1

-- the bins of a row ascend and are bins of the instance
pub record IsRow (bins : ℕ) (row : List ℕ) : Type 0 where
  pub ascending : IsStrictlyIncreasing row
  pub in_range : All (λ bin. bin < bins) row

-- limits and rows within the limits
pub record IsReach (limits : List ℕ) (rows : List (List ℕ)) : Type 0 where
  pub items : length rows ≤ MOST_ITEMS
  pub bins : length limits ≤ MOST_BINS
  pub pairs : sum_by length rows ≤ MOST_PAIRS
  pub each_row : All (IsRow (length limits)) rows

-- a list of pairs names items and bins in range, and no item twice
pub record IsPreceding (items bins : ℕ) (pairs : List (ℕ × ℕ)) : Type 0 where
  pub in_range : All (λ (q : ℕ × ℕ). (q.0 < items) × (q.1 < bins)) pairs
  pub once : (item : ℕ) → count_by (λ (q : ℕ × ℕ). q.0 == item) pairs ≤ 1

-- what an instance is made of: limits and rows within the limits, draining bins that ascend and are in range, pairs before
pub record IsShaped (limits draining : List ℕ) (rows : List (List ℕ)) (pairs : List (ℕ × ℕ)) : Type 0 where
  pub reach : IsReach limits rows
  pub drains : IsRow (length limits) draining
  pub preceding : IsPreceding (length rows) (length limits) pairs

-- the bin beside an item in a list of pairs, the first where there are several
abbrev pub bin_in : List (ℕ × ℕ) → ℕ → Option ℕ
bin_in [] item = None
bin_in (q ∷ pairs) item = if q.0 == item then Some q.1 else bin_in pairs item

-- for each item the bin beside it
pub record IsPlaced (items : ℕ) (pairs : List (ℕ × ℕ)) (places : List (Option ℕ)) : Type 0 where
  pub each : length places ≡ items
  pub bins : (item : ℕ) → item < items → slice_index_or places item None ≡ bin_in pairs item

-- for each bin whether it is one of these
pub record IsMarked (bins : ℕ) (draining : List ℕ) (marks : List Bool) : Type 0 where
  pub each : length marks ≡ bins
  pub at : (bin : ℕ) → bin < bins → slice_index_or marks bin false ≡ list_any (λ b. b == bin) draining

-- the problem has this version, these limits, draining bins, rows and pairs before
pub record IsProblemOf (p : Problem) (version : Version) (limits draining : List ℕ) (rows : List (List ℕ)) (pairs : List (ℕ × ℕ)) : Type 0 where
  pub same_version : p.version ≡ version
  pub same_limits : p.limits ≡ limits
  pub same_draining : IsMarked (length limits) draining p.draining
  pub same_rows : p.rows ≡ rows
  pub before : IsPlaced (length rows) pairs p.before

-- what every instance keeps: in version 1 nothing drains
pub record IsProblem (p : Problem) : Type 0 where
  pub reach : IsReach p.limits p.rows
  pub bins : length p.draining ≡ bins_of p
  pub old : p.version ≡ One → (bin : ℕ) → drains p bin ≡ false
  pub items : length p.before ≡ items_of p
  pub before_in_range : (item bin : ℕ) → before_of p item ≡ Some bin → bin < bins_of p
