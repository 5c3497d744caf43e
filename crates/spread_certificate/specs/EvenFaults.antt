-- The first fault of levels that are to show how even a plan is, in the order of the kinds.
use Rattle.std.specs.Prelude.{ℕ, ◌≡◌, ◌≤◌, Bool, ◌==◌, ◌&&◌, ◌||◌, ◌+◌, List, Option, Some, None, option_map, not, nat_le, length, slice_index, if◌then◌else◌}
use Rattle.price_certificate.specs.Problem.{Problem, items_of, bins_of, row_of}
use Rattle.price_certificate.specs.Assignment.{covered, left}
use Rattle.price_certificate.specs.Certificate.{value_of, worth_by}
use Rattle.price_certificate.specs.Faults.{fault_of, first_below, or_else, bin_at}
use Rattle.price_certificate.specs.Derived.{bare}
use Rattle.spread_certificate.specs.Loads.{worth_at}
use Rattle.spread_certificate.specs.Even.{owner_of, owners_of, load_in, caps_of, with_slack}
use Rattle.spread_certificate.specs.declared.even.TheConstants.{MOST_SLACK}
use Rattle.spread_certificate.specs.declared.even.Even.{Even}
use Rattle.spread_certificate.specs.declared.spread.Spread.{Spread}
use Rattle.spread_certificate.specs.declared.verdict.EvenFault.{EvenFault}
use Rattle.spread_certificate.specs.declared.verdict.EvenFault.TheVariants.{NoJobs, SlackTooHigh, WrongLengths, CoversOther, LeavesOther, Witness, LevelTooHigh, PriceTooLow, SumsDiffer, OffLevel, CapsTooHigh}

abbrev pub even_unless : Bool → EvenFault → Option EvenFault
even_unless fine fault = if fine then None else Some fault

-- a level for each collector, a price for each item and for each bin
abbrev pub are_lengths : Problem → Even → Bool
are_lengths p even = (length even.levels == owners_of p even.jobs) && ((length even.item_prices == items_of p) && (length even.bin_prices == bins_of p))

unfoldable pub shape_fault : Problem → Even → Option EvenFault
shape_fault p even =
    or_else (even_unless (not (even.jobs == 0)) NoJobs)
    (or_else (even_unless (nat_le even.slack MOST_SLACK) (SlackTooHigh even.slack))
    (even_unless (are_lengths p even) WrongLengths))

-- the pairs of the witness: those of the plan where there are no others
abbrev pub witness_pairs : Spread → Option (List (ℕ × ℕ)) → List (ℕ × ℕ)
witness_pairs spread None = spread.plan.pairs
witness_pairs spread (Some pairs) = pairs

abbrev pub witness_of : Spread → Even → List (ℕ × ℕ)
witness_of spread even = witness_pairs spread even.witness

-- it covers and leaves as many
abbrev pub count_fault : Problem → List (ℕ × ℕ) → List (ℕ × ℕ) → Option EvenFault
count_fault p witness pairs =
    or_else (even_unless (covered witness == covered pairs) (CoversOther (covered witness) (covered pairs)))
    (even_unless (left p witness == left p pairs) (LeavesOther (left p witness) (left p pairs)))

-- A witness with other pairs than the plan covers and leaves as many, and is feasible. So the free prices certify it too.
abbrev pub other_fault : Problem → Spread → Option (List (ℕ × ℕ)) → Option EvenFault
other_fault p spread None = None
other_fault p spread (Some pairs) =
    or_else (count_fault p pairs spread.plan.pairs) (option_map Witness (fault_of (bare p) pairs spread.free_item_prices spread.free_bin_prices))

unfoldable pub witness_fault : Problem → Spread → Even → Option EvenFault
witness_fault p spread even = other_fault p spread even.witness

-- the first collector with a level above what a pair can be worth
abbrev pub level_fault_at : Even → ℕ → Option EvenFault
level_fault_at even collector = even_unless (nat_le (slice_index even.levels collector) even.keep) (LevelTooHigh collector)

unfoldable pub level_fault : Problem → Even → Option EvenFault
level_fault p even = first_below (level_fault_at even) (owners_of p even.jobs)

-- what a pair is worth at the levels
abbrev pub level_worth : Problem → Even → ℕ → ℕ → ℕ
level_worth p even item bin = worth_at p (owner_of even.jobs) even.levels even.keep item bin

-- the least item, and of that the least bin, that are priced below their worth
abbrev pub price_fault_at : Problem → Even → ℕ → ℕ → Option EvenFault
price_fault_at p even item place =
    even_unless (nat_le (level_worth p even item (bin_at p item place)) (slice_index even.item_prices item + slice_index even.bin_prices (bin_at p item place))) (PriceTooLow item (bin_at p item place))

unfoldable pub row_fault : Problem → Even → ℕ → Option EvenFault
row_fault p even item = first_below (price_fault_at p even item) (length (row_of p item))

unfoldable pub price_fault : Problem → Even → Option EvenFault
price_fault p even = first_below (row_fault p even) (items_of p)

-- the value of the prices is what the witness is worth
abbrev pub value_in : Problem → Even → ℕ
value_in p even = value_of p even.item_prices even.bin_prices

abbrev pub worth_in : Problem → Even → List (ℕ × ℕ) → ℕ
worth_in p even pairs = worth_by (level_worth p even) pairs

unfoldable pub sum_fault : Problem → Even → List (ℕ × ℕ) → Option EvenFault
sum_fault p even pairs = even_unless (value_in p even == worth_in p even pairs) (SumsDiffer (value_in p even) (worth_in p even pairs))

-- how many items each group has, and how many its caps allow
pub record AreLoads (p : Problem) (jobs : ℕ) (pairs : List (ℕ × ℕ)) (loads : List ℕ) : Type 0 where
  pub each : length loads ≡ owners_of p jobs + 1
  pub items : (group : ℕ) → group ≤ owners_of p jobs → slice_index loads group ≡ load_in p jobs pairs group

pub record AreRooms (p : Problem) (jobs : ℕ) (caps rooms : List ℕ) : Type 0 where
  pub each : length rooms ≡ owners_of p jobs + 1
  pub items : (group : ℕ) → group ≤ owners_of p jobs → slice_index rooms group ≡ caps_of p jobs caps group

-- the first collector whose load is neither its level nor one more
abbrev pub is_at_level : ℕ → ℕ → Bool
is_at_level load level = (load == level) || (load == level + 1)

abbrev pub load_fault_at : Problem → Even → List (ℕ × ℕ) → ℕ → Option EvenFault
load_fault_at p even pairs collector = even_unless (is_at_level (load_in p even.jobs pairs collector) (slice_index even.levels collector)) (OffLevel collector)

unfoldable pub load_fault : Problem → Even → List (ℕ × ℕ) → Option EvenFault
load_fault p even pairs = first_below (load_fault_at p even pairs) (owners_of p even.jobs)

-- the first collector whose caps are together above its load in the witness and the slack
abbrev pub room_fault_at : Problem → Even → List ℕ → List (ℕ × ℕ) → ℕ → Option EvenFault
room_fault_at p even caps pairs collector = even_unless (nat_le (caps_of p even.jobs caps collector) (with_slack even.slack (load_in p even.jobs pairs collector))) (CapsTooHigh collector)

unfoldable pub room_fault : Problem → Even → List ℕ → List (ℕ × ℕ) → Option EvenFault
room_fault p even caps pairs = first_below (room_fault_at p even caps pairs) (owners_of p even.jobs)

-- what is wrong with the levels, where the witness has these pairs
unfoldable pub levels_fault : Problem → List ℕ → Even → List (ℕ × ℕ) → Option EvenFault
levels_fault p caps even pairs =
    or_else (level_fault p even)
    (or_else (price_fault p even)
    (or_else (sum_fault p even pairs)
    (or_else (load_fault p even pairs)
    (room_fault p even caps pairs))))

-- the first fault of all
unfoldable pub even_fault : Problem → Spread → Even → Option EvenFault
even_fault p spread even =
    or_else (shape_fault p even)
    (or_else (witness_fault p spread even)
    (levels_fault p spread.caps even (witness_of spread even)))
