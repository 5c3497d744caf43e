-- Which pairs of the preceding assignment a plan can keep at once.
use Rattle.std.specs.List.{list_any}
use Rattle.std.specs.Prelude.{◌≡◌, ◌==◌, ◌&&◌, ℕ, Bool, false, Option, Some, None, not, nat_lt, if◌then◌else◌}
use Rattle.price_certificate.specs.Problem.{Problem, IsAllowed, capacity_of, drains, row_of, before_of, is_bin}
use Rattle.price_certificate.specs.Certificate.{sum_below}

abbrev pub one_if : Bool → ℕ
one_if b = if b then 1 else 0

-- the item may use the bin, and the bin does not drain
abbrev pub may_stay : Problem → ℕ → ℕ → Bool
may_stay p item bin = list_any (λ b. b == bin) (row_of p item) && not (drains p bin)

abbrev pub if_may_stay : Problem → ℕ → Option ℕ → Option ℕ
if_may_stay p item None = None
if_may_stay p item (Some bin) = if may_stay p item bin then Some bin else None

-- the bin where the item was, if the item may stay there
unfoldable pub home_of : Problem → ℕ → Option ℕ
home_of p item = if_may_stay p item (before_of p item)

-- the item was in the bin, may use it, and the bin does not drain
pub record IsHome (p : Problem) (item bin : ℕ) : Type 0 where
  pub before : before_of p item ≡ Some bin
  pub allowed : IsAllowed p item bin
  pub steady : drains p bin ≡ false

-- how many of the items below n were in the bin and may stay there
abbrev pub claims_below : Problem → ℕ → ℕ → ℕ
claims_below p n bin = sum_below (λ item. one_if (is_bin (home_of p item) bin)) n

abbrev pub is_early : Problem → ℕ → Option ℕ → Bool
is_early p item None = false
is_early p item (Some bin) = nat_lt (claims_below p item bin) (capacity_of p bin)

-- The item has a usable pair: it may stay in the bin where it was, and among the items of which this is true at that bin it
-- is one of the first, up to the bin's capacity.
unfoldable pub has_usable : Problem → ℕ → Bool
has_usable p item = is_early p item (home_of p item)

-- how many of the items below n have no usable pair
abbrev pub movers_below : Problem → ℕ → ℕ
movers_below p n = sum_below (λ item. one_if (not (has_usable p item))) n
