-- Prices that certify an assignment: a solution of the dual linear program with the same value.
use Rattle.std.specs.Prelude.{◌≡◌, ◌+◌, ◌*◌, ◌≤◌, ℕ, zero, suc, List, length, slice_index, sum, sum_by}
use Rattle.price_certificate.specs.Problem.{Problem, items_of, bins_of, capacity_of, weight_of, IsAllowed}
use Rattle.price_certificate.specs.Assignment.{IsFeasible}

-- f 0 + .. + f (n - 1)
abbrev pub sum_below : (ℕ → ℕ) → ℕ → ℕ
sum_below f zero = 0
sum_below f (suc n) = sum_below f n + f n

-- what a list of pairs is worth, by the weight of each pair
abbrev pub worth_by : (ℕ → ℕ → ℕ) → List (ℕ × ℕ) → ℕ
worth_by weight pairs = sum_by (λ (q : ℕ × ℕ). weight q.0 q.1) pairs

abbrev pub worth_of : Problem → List (ℕ × ℕ) → ℕ
worth_of p pairs = worth_by (weight_of p) pairs

-- the value of the prices: those of the items, and of each bin's capacity
abbrev pub value_of : Problem → List ℕ → List ℕ → ℕ
value_of p item_prices bin_prices = sum item_prices + sum_below (λ bin. capacity_of p bin * slice_index bin_prices bin) (bins_of p)

-- each allowed pair is priced at its weight or above
pub record IsPriced (p : Problem) (weight : ℕ → ℕ → ℕ) (item_prices bin_prices : List ℕ) : Type 0 where
  pub items : length item_prices ≡ items_of p
  pub bins : length bin_prices ≡ bins_of p
  pub pairs : (item bin : ℕ) → IsAllowed p item bin → weight item bin ≤ slice_index item_prices item + slice_index bin_prices bin

-- The assignment is feasible and worth what the prices say, and they price each allowed pair at its weight or above.
pub record IsCertified (p : Problem) (pairs : List (ℕ × ℕ)) (item_prices bin_prices : List ℕ) : Type 0 where
  pub feasible : IsFeasible p pairs
  pub priced : IsPriced p (weight_of p) item_prices bin_prices
  pub sums : value_of p item_prices bin_prices ≡ worth_of p pairs
