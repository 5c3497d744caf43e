-- Weak duality: prices bound what every feasible list is worth, whatever the weights.
use Rattle.std.proofs.Common.{◌≡◌, ◌+◌, ◌*◌, ◌<◌, ◌≤◌, ℕ, List, [], inl, inr, length, get_or, sum, ap, subst, arith}
use Rattle.std.proofs.lemmas.List.Elements.{All-weaker}
use Rattle.std.proofs.lemmas.List.{get_or_past}
use Rattle.std.proofs.lemmas.Bool.{cases_lt}
use Rattle.std.proofs.Math.Nat.{mul-le-mul_left}
use Rattle.price_certificate.specs.Problem.{Problem, items_of, bins_of, capacity_of, row_of, IsAllowed}
use Rattle.price_certificate.specs.Assignment.{uses_of_item, uses_of_bin, IsFeasible}
use Rattle.price_certificate.specs.Certificate.{sum_below, worth_by, value_of, IsPriced}
use Rattle.price_certificate.proofs.Sums.{sum_below-le, sum_is_below, sum_by_key, sum_by-least, sum_by-add}

-- an allowed pair names an item of the instance
pub allowed_item : (p : Problem) (item bin : ℕ) → IsAllowed p item bin → item < items_of p
unfolding row_of
allowed_item p item bin a = elim (cases_lt item (items_of p)) [
  | inl l ↦ l
  | inr g ↦ absurd (let e : row_of p item ≡ [] = get_or_past p.rows item [] g in let l : a.0 < length (row_of p item) = a.1 in let z = ap length e in omega arith)
]

-- No feasible list is worth more than the prices.
pub duality : (p : Problem) (weight : ℕ → ℕ → ℕ) (pairs : List (ℕ × ℕ)) (item_prices bin_prices : List ℕ) → ((item bin : ℕ) → IsAllowed p item bin → bin < bins_of p) → IsPriced p weight item_prices bin_prices → IsFeasible p pairs → worth_by weight pairs ≤ value_of p item_prices bin_prices
duality p weight pairs us vs in_range priced feasible =
    let reach = feasible.allowed in
    let items = All-weaker (λ (q : ℕ × ℕ). IsAllowed p q.0 q.1) (λ (q : ℕ × ℕ). q.0 < items_of p) (λ q a. allowed_item p q.0 q.1 a) _ reach in
    let bins = All-weaker (λ (q : ℕ × ℕ). IsAllowed p q.0 q.1) (λ (q : ℕ × ℕ). q.1 < bins_of p) (λ q a. in_range q.0 q.1 a) _ reach in
    let each = All-weaker (λ (q : ℕ × ℕ). IsAllowed p q.0 q.1) (λ (q : ℕ × ℕ). weight q.0 q.1 ≤ get_or us q.0 0 + get_or vs q.1 0) (λ q a. priced.pairs q.0 q.1 a) _ reach in
    let worth = sum_by-least (λ (q : ℕ × ℕ). weight q.0 q.1) (λ (q : ℕ × ℕ). get_or us q.0 0 + get_or vs q.1 0) pairs each in
    let parts = sum_by-add (λ (q : ℕ × ℕ). get_or us q.0 0) (λ (q : ℕ × ℕ). get_or vs q.1 0) pairs in
    let by_item = sum_by_key (λ (q : ℕ × ℕ). q.0) (λ t. get_or us t 0) (items_of p) pairs items in
    let by_bin = sum_by_key (λ (q : ℕ × ℕ). q.1) (λ b. get_or vs b 0) (bins_of p) pairs bins in
    let all_items : sum us ≡ sum_below (λ t. get_or us t 0) (items_of p) = subst (λ (n : ℕ). sum us ≡ sum_below (λ t. get_or us t 0) n) priced.items (sum_is_below us) in
    let item_most = sum_below-le (λ t. get_or us t 0 * uses_of_item pairs t) (λ t. get_or us t 0) (items_of p) (λ t l. omega (arith, mul-le-mul_left (get_or us t 0) (feasible.once t))) in
    let bin_most = sum_below-le (λ b. get_or vs b 0 * uses_of_bin pairs b) (λ b. capacity_of p b * get_or vs b 0) (bins_of p) (λ b l. omega (arith, mul-le-mul_left (get_or vs b 0) (feasible.within b))) in
    omega (arith, worth, parts, by_item, by_bin, all_items, item_most, bin_most)
