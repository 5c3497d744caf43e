-- The checker's verdict: the first fault of a plan, in the order of the kinds, each looked for through the whole plan
-- before the next.
use Rattle.std.specs.Prelude.{ℕ, zero, suc, Bool, true, false, List, All, Option, Some, None, ◌≡◌, ◌<◌, ◌≤◌, ◌↔◌, ◌⊎◌, ◌+◌, ◌-◌, ◌*◌, ◌==◌, ◌&&◌, not, nat_lt, nat_le, length, slice_index, slice_index_or, take, if◌then◌else◌}
use Rattle.std.specs.List.{list_any}
use Rattle.price_certificate.specs.Problem.{Problem, IsAllowed, IsProblem, items_of, bins_of, row_of, capacity_of, cover_worth, steady_worth, weight_of, bin_worth}
use Rattle.price_certificate.specs.Rows.{row_at}
use Rattle.price_certificate.specs.Assignment.{uses_of_bin, covered, left, kept, moved}
use Rattle.price_certificate.specs.Certificate.{IsCertified, value_of, worth_of}
use Rattle.price_certificate.specs.declared.verdict.Fault.{Fault}
use Rattle.price_certificate.specs.declared.verdict.Fault.TheVariants.{WrongLengths, BadNumber, ItemTwice, OutOfReach, OverLimit, PriceTooLow, SumsDiffer}
use Rattle.price_certificate.specs.declared.verdict.Verdict.{Verdict}
use Rattle.price_certificate.specs.declared.verdict.Verdict.TheVariants.{Best, Refused}

abbrev pub or_else : {A : Type 0} → Option A → Option A → Option A
or_else None other = other
or_else (Some x) other = Some x

-- the first of f 0, f 1, .. f (n - 1) that there is
abbrev pub first_below : {A : Type 0} → (ℕ → Option A) → ℕ → Option A
first_below f zero = None
first_below f (suc n) = or_else (first_below f n) (f n)

abbrev pub fault_unless : Bool → Fault → Option Fault
fault_unless fine fault = if fine then None else Some fault

-- the pair at a place
abbrev pub pair_at : List (ℕ × ℕ) → ℕ → ℕ × ℕ
pair_at pairs place = slice_index_or pairs place (0, 0)

-- a price for each item and for each bin
abbrev pub length_fault : Problem → List ℕ → List ℕ → Option Fault
length_fault p item_prices bin_prices = fault_unless ((length item_prices == items_of p) && (length bin_prices == bins_of p)) WrongLengths

-- the first place whose item or bin is out of range
abbrev pub number_fault_at : Problem → List (ℕ × ℕ) → ℕ → Option Fault
number_fault_at p pairs place = fault_unless (nat_lt (pair_at pairs place).0 (items_of p) && nat_lt (pair_at pairs place).1 (bins_of p)) (BadNumber place)

unfoldable pub number_fault : Problem → List (ℕ × ℕ) → Option Fault
number_fault p pairs = first_below (number_fault_at p pairs) (length pairs)

-- the first place whose item stands earlier
abbrev pub stands_in : List (ℕ × ℕ) → ℕ → Bool
stands_in pairs item = list_any (λ (q : ℕ × ℕ). q.0 == item) pairs

abbrev pub repeat_fault_at : List (ℕ × ℕ) → ℕ → Option Fault
repeat_fault_at pairs place = fault_unless (not (stands_in (take place pairs) (pair_at pairs place).0)) (ItemTwice (pair_at pairs place).0)

unfoldable pub repeat_fault : List (ℕ × ℕ) → Option Fault
repeat_fault pairs = first_below (repeat_fault_at pairs) (length pairs)

-- the first pair that is not allowed
abbrev pub is_allowed : Problem → ℕ → ℕ → Bool
is_allowed p item bin = list_any (λ b. b == bin) (row_of p item)

abbrev pub reach_fault_at : Problem → List (ℕ × ℕ) → ℕ → Option Fault
reach_fault_at p pairs place = fault_unless (is_allowed p (pair_at pairs place).0 (pair_at pairs place).1) (OutOfReach (pair_at pairs place).0 (pair_at pairs place).1)

unfoldable pub reach_fault : Problem → List (ℕ × ℕ) → Option Fault
reach_fault p pairs = first_below (reach_fault_at p pairs) (length pairs)

-- the least bin above its capacity
abbrev pub limit_fault_at : Problem → List (ℕ × ℕ) → ℕ → Option Fault
limit_fault_at p pairs bin = fault_unless (nat_le (uses_of_bin pairs bin) (capacity_of p bin)) (OverLimit bin)

unfoldable pub limit_fault : Problem → List (ℕ × ℕ) → Option Fault
limit_fault p pairs = first_below (limit_fault_at p pairs) (bins_of p)

-- the least item, and of that the least bin, that are priced below their weight: rows ascend
abbrev pub bin_at : Problem → ℕ → ℕ → ℕ
bin_at p item place = slice_index (row_of p item) place

abbrev pub price_fault_at : Problem → List ℕ → List ℕ → ℕ → ℕ → Option Fault
price_fault_at p item_prices bin_prices item place =
    fault_unless (nat_le (weight_of p item (bin_at p item place)) (slice_index item_prices item + slice_index bin_prices (bin_at p item place))) (PriceTooLow item (bin_at p item place))

unfoldable pub row_fault : Problem → List ℕ → List ℕ → ℕ → Option Fault
row_fault p item_prices bin_prices item = first_below (price_fault_at p item_prices bin_prices item) (length (row_of p item))

unfoldable pub price_fault : Problem → List ℕ → List ℕ → Option Fault
price_fault p item_prices bin_prices = first_below (row_fault p item_prices bin_prices) (items_of p)

-- a price is enough for an item with these bins, unless it was at one of them
abbrev pub IsEnough : Problem → List ℕ → ℕ → List ℕ → Type 0
IsEnough p bin_prices price row = All (λ bin. bin_worth p bin ≤ price + slice_index bin_prices bin) row

-- for each list of bins such a price
abbrev pub AreEnough : Problem → List ℕ → List ℕ → List (List ℕ) → Type 0
AreEnough p bin_prices prices lists = (number : ℕ) → IsEnough p bin_prices (slice_index prices number) (row_at lists number)

-- for each item, by the number of its list
abbrev pub IsEnoughForEach : Problem → List ℕ → List ℕ → List ℕ → Type 0
IsEnoughForEach p bin_prices prices list_of = (item : ℕ) → item < items_of p → IsEnough p bin_prices (slice_index prices (slice_index list_of item)) (row_of p item)

-- the worth of the pairs level by level: what they cover, what of that is not left at draining bins, and what they keep
abbrev pub weight_sum : Problem → List (ℕ × ℕ) → ℕ
weight_sum p pairs = cover_worth p.version (items_of p) * covered pairs + steady_worth p.version (items_of p) * (covered pairs - left p pairs) + kept p pairs

-- and that is what its pairs are worth together
abbrev pub WorthIsByLevel : Type 0
WorthIsByLevel = (p : Problem) (pairs : List (ℕ × ℕ)) → worth_of p pairs ≡ weight_sum p pairs

unfoldable pub sum_fault : Problem → List (ℕ × ℕ) → List ℕ → List ℕ → Option Fault
sum_fault p pairs item_prices bin_prices = fault_unless (value_of p item_prices bin_prices == weight_sum p pairs) (SumsDiffer (value_of p item_prices bin_prices) (weight_sum p pairs))

-- the first fault of all
unfoldable pub fault_of : Problem → List (ℕ × ℕ) → List ℕ → List ℕ → Option Fault
fault_of p pairs item_prices bin_prices =
    or_else (length_fault p item_prices bin_prices)
    (or_else (number_fault p pairs)
    (or_else (repeat_fault pairs)
    (or_else (reach_fault p pairs)
    (or_else (limit_fault p pairs)
    (or_else (price_fault p item_prices bin_prices)
    (sum_fault p pairs item_prices bin_prices))))))

-- a plan has no fault exactly where it is certified
abbrev pub NoFaultIsCertified : Type 0
NoFaultIsCertified = (p : Problem) (pairs : List (ℕ × ℕ)) (item_prices bin_prices : List ℕ) → IsProblem p → (fault_of p pairs item_prices bin_prices ≡ None) ↔ IsCertified p pairs item_prices bin_prices

-- no allowed pair of a lower item, or of the same item and a lower bin, is priced below its weight
abbrev pub PriceFaultIsLeast : Type 0
PriceFaultIsLeast =
    (p : Problem) (item_prices bin_prices : List ℕ) (item bin : ℕ) → IsProblem p → price_fault p item_prices bin_prices ≡ Some (PriceTooLow item bin) → (other other_bin : ℕ) → IsAllowed p other other_bin
    → slice_index item_prices other + slice_index bin_prices other_bin < weight_of p other other_bin → (item < other) ⊎ ((item ≡ other) × (bin ≤ other_bin))

abbrev pub verdict_by : ℕ → ℕ → ℕ → Option Fault → Verdict
verdict_by covers leaves moves None = Best covers leaves moves
verdict_by covers leaves moves (Some fault) = Refused fault

abbrev pub verdict_of : Problem → List (ℕ × ℕ) → List ℕ → List ℕ → Verdict
verdict_of p pairs item_prices bin_prices = verdict_by (covered pairs) (left p pairs) (moved p pairs) (fault_of p pairs item_prices bin_prices)

-- the verdict is `Best`
abbrev pub is_best : Verdict → Bool
is_best (Best covers leaves moves) = true
is_best (Refused fault) = false

-- how many pairs each bin has
pub record IsCounted (bins : ℕ) (pairs : List (ℕ × ℕ)) (counts : List ℕ) : Type 0 where
  pub each : length counts ≡ bins
  pub uses : (bin : ℕ) → bin < bins → slice_index counts bin ≡ uses_of_bin pairs bin
