-- There is no fault exactly where the plan is certified.
use Rattle.std.proofs.Common.{◌≡◌, ◌+◌, ◌<◌, ◌≤◌, ◌&&◌, ◌||◌, ℕ, zero, suc, cond, eqb, ltb, Bool, true, false, List, [], ◌∷◌, All, Contains, None, inl, inr, length, get_or, take, refl, sym, ap, subst, ◌∙◌, arith}
use Rattle.std.specs.Prelude.{not}
use Rattle.std.specs.List.{list_any}
use Rattle.std.proofs.lemmas.List.{take_all, get_or_default}
use Rattle.std.proofs.lemmas.List.Elements.{All-from_get_or, All-get_or, All-head, All-tail, All-weaker}
use Rattle.std.proofs.lemmas.List.Folds.{list_any_at, Any-from_list_any}
use Rattle.std.proofs.lemmas.List.Sums.{sum_by-cons, count_by_more_yes, count_by_more_no, sum_by-take-le}
use Rattle.std.proofs.lemmas.Bool.{cases_eq, cases_lt, eqb-true, eq-eqb, ne_eqb, ltb-true, lt-ltb, leb-true, le-leb}
use Rattle.price_certificate.specs.Problem.{Problem, IsProblem, IsAllowed, items_of, bins_of, row_of, capacity_of, weight_of}
use Rattle.price_certificate.specs.Assignment.{IsFeasible, uses_of_item, uses_of_bin}
use Rattle.price_certificate.specs.Certificate.{IsCertified, value_of}
use Rattle.price_certificate.specs.Faults.{pair_at, stands_in, is_allowed, bin_at, length_fault, number_fault, number_fault_at, repeat_fault, repeat_fault_at, reach_fault, reach_fault_at, limit_fault, limit_fault_at, row_fault, price_fault_at, price_fault, sum_fault, weight_sum, fault_of}
use Rattle.price_certificate.specs.declared.verdict.Fault.TheVariants.{WrongLengths, BadNumber, ItemTwice, OutOfReach, OverLimit, PriceTooLow, SumsDiffer}
use Rattle.price_certificate.proofs.Duality.{allowed_item}
use Rattle.price_certificate.proofs.InstanceRows.{allowed_bin}
use Rattle.price_certificate.proofs.Optimal.{worth_parts}
use Rattle.price_certificate.proofs.First.{first_none, none_below, or_else_none, both_none, unless_true, unless_none}

both_true : (a b : Bool) → (a && b) ≡ true → (a ≡ true) × (b ≡ true)
both_true true true e = (refl, refl)
both_true true false e = (refl, e)
both_true false b e = cc

and_true : (a b : Bool) → a ≡ true → b ≡ true → (a && b) ≡ true
and_true true b e f = f
and_true false b e f = cc

not_true : (b : Bool) → not b ≡ true → b ≡ false
not_true true e = cc
not_true false e = refl

-- the lengths
pub lengths_fine : (p : Problem) (us vs : List ℕ) → length_fault p us vs ≡ None → (length us ≡ items_of p) × (length vs ≡ bins_of p)
lengths_fine p us vs e = let h = both_true _ _ (unless_none (eqb (length us) (items_of p) && eqb (length vs) (bins_of p)) WrongLengths e) in (eqb-true _ _ h.0, eqb-true _ _ h.1)

lengths_none : (p : Problem) (us vs : List ℕ) → length us ≡ items_of p → length vs ≡ bins_of p → length_fault p us vs ≡ None
lengths_none p us vs u v = unless_true _ WrongLengths (and_true _ _ (eq-eqb _ _ u) (eq-eqb _ _ v))

-- the numbers
pub numbers_fine : (p : Problem) (pairs : List (ℕ × ℕ)) → number_fault p pairs ≡ None → (place : ℕ) → place < length pairs → ((pair_at pairs place).0 < items_of p) × ((pair_at pairs place).1 < bins_of p)
unfolding number_fault
numbers_fine p pairs e place l =
    let q = pair_at pairs place in
    let h = both_true _ _ (unless_none (ltb q.0 (items_of p) && ltb q.1 (bins_of p)) (BadNumber place) (none_below (number_fault_at p pairs) (length pairs) e place l)) in
    (ltb-true _ _ h.0, ltb-true _ _ h.1)

numbers_none : (p : Problem) (pairs : List (ℕ × ℕ)) → ((place : ℕ) → place < length pairs → ((pair_at pairs place).0 < items_of p) × ((pair_at pairs place).1 < bins_of p)) → number_fault p pairs ≡ None
unfolding number_fault
numbers_none p pairs h = first_none (number_fault_at p pairs) (length pairs) (λ place l. unless_true _ (BadNumber place) (and_true _ _ (lt-ltb _ _ (h place l).0) (lt-ltb _ _ (h place l).1)))

-- the items, each once
either_false : (a b : Bool) → (a || b) ≡ false → (a ≡ false) × (b ≡ false)
either_false true b e = cc
either_false false b e = (refl, e)

none_more : (m n : ℕ) (b : Bool) → b ≡ false → n ≡ 0 → m ≡ cond b 1 0 + n → m ≡ 0
none_more m n b e z s = omega (arith, ap (λ (t : Bool). (let r : ℕ = cond t 1 0 in r)) e)

stands_none : (pairs : List (ℕ × ℕ)) (item : ℕ) → stands_in pairs item ≡ false → uses_of_item pairs item ≡ 0
stands_none [] item e = refl
stands_none (q ∷ pairs) item e =
    let h = either_false (eqb q.0 item) (stands_in pairs item) e in
    none_more _ _ (eqb q.0 item) h.0 (stands_none pairs item h.1) (sum_by-cons (λ (r : ℕ × ℕ). cond (eqb r.0 item) 1 0) q pairs)

some_here : (m n : ℕ) → m ≡ 1 + n → 1 ≤ m
some_here m n e = omega arith

stands_some_step : (b rest : Bool) (m n : ℕ) → (b || rest) ≡ true → (rest ≡ true → 1 ≤ n) → m ≡ cond b 1 0 + n → 1 ≤ m
stands_some_step true rest m n e h s = some_here m n s
stands_some_step false rest m n e h s = omega (arith, h e)

stands_some : (pairs : List (ℕ × ℕ)) (item : ℕ) → stands_in pairs item ≡ true → 1 ≤ uses_of_item pairs item
stands_some [] item e = cc
stands_some (q ∷ pairs) item e = stands_some_step (eqb q.0 item) (stands_in pairs item) _ _ e (λ f. stands_some pairs item f) (sum_by-cons (λ (r : ℕ × ℕ). cond (eqb r.0 item) 1 0) q pairs)

once_below : (pairs : List (ℕ × ℕ)) → ((place : ℕ) → place < length pairs → stands_in (take place pairs) (pair_at pairs place).0 ≡ false) → (item n : ℕ) → n ≤ length pairs → uses_of_item (take n pairs) item ≤ 1
once_below pairs h item zero l = omega arith
once_below pairs h item (suc n) l =
    let q = pair_at pairs n in
    let P : ℕ → Type 0 = λ (k : ℕ). uses_of_item (take k pairs) item ≤ 1 in
    let s : n + 1 ≡ suc n = omega arith in
    let before : uses_of_item (take n pairs) item ≤ 1 = once_below pairs h item n (omega arith) in
    subst P s (elim (cases_eq q.0 item) [
      | inl e ↦ let none : uses_of_item (take n pairs) item ≡ 0 = stands_none (take n pairs) item (subst (λ (k : ℕ). stands_in (take n pairs) k ≡ false) e (h n (omega arith))) in
          omega (arith, count_by_more_yes (λ (r : ℕ × ℕ). eqb r.0 item) pairs n (0, 0) (omega arith) (eq-eqb q.0 item e), none)
      | inr d ↦ omega (arith, count_by_more_no (λ (r : ℕ × ℕ). eqb r.0 item) pairs n (0, 0) (omega arith) (ne_eqb q.0 item d), before)
    ])

repeats_fine : (pairs : List (ℕ × ℕ)) → repeat_fault pairs ≡ None → (item : ℕ) → uses_of_item pairs item ≤ 1
unfolding repeat_fault
repeats_fine pairs e item =
    let each = λ (place : ℕ) (l : place < length pairs). (let r : stands_in (take place pairs) (pair_at pairs place).0 ≡ false = not_true _ (unless_none _ (ItemTwice (pair_at pairs place).0) (none_below (repeat_fault_at pairs) (length pairs) e place l)) in r) in
    subst (λ (xs : List (ℕ × ℕ)). uses_of_item xs item ≤ 1) (take_all (length pairs) pairs (omega arith)) (once_below pairs each item (length pairs) (omega arith))

not_standing : (pairs : List (ℕ × ℕ)) (place : ℕ) → ((item : ℕ) → uses_of_item pairs item ≤ 1) → place < length pairs → (b : Bool) → stands_in (take place pairs) (pair_at pairs place).0 ≡ b → not b ≡ true
not_standing pairs place h l false e = refl
not_standing pairs place h l true e =
    let item = (pair_at pairs place).0 in
    let more = count_by_more_yes (λ (r : ℕ × ℕ). eqb r.0 item) pairs place (0, 0) l (eq-eqb item item refl) in
    let all = sum_by-take-le (λ (r : ℕ × ℕ). cond (eqb r.0 item) 1 0) pairs (place + 1) in
    absurd (omega (arith, stands_some (take place pairs) item e, more, all, h item))

repeats_none : (pairs : List (ℕ × ℕ)) → ((item : ℕ) → uses_of_item pairs item ≤ 1) → repeat_fault pairs ≡ None
unfolding repeat_fault
repeats_none pairs h = first_none (repeat_fault_at pairs) (length pairs) (λ place l. unless_true _ _ (not_standing pairs place h l _ refl))

-- the pairs, each allowed
is_allowed-from : (p : Problem) (item bin : ℕ) → IsAllowed p item bin → is_allowed p item bin ≡ true
is_allowed-from p item bin a = list_any_at (λ (b : ℕ). eqb b bin) (row_of p item) a.0 bin a.1 (ap (λ (b : ℕ). eqb b bin) a.2 ∙ eq-eqb bin bin refl)

allowed_in : (row : List ℕ) (bin : ℕ) → list_any (λ (b : ℕ). eqb b bin) row ≡ true → Contains row bin
allowed_in row bin e = let found = Any-from_list_any (λ (b : ℕ). eqb b bin) row e in let same : found.1 ≡ bin = eqb-true found.1 bin found.4 in (found.0, found.2, get_or_default row found.0 bin found.1 found.2 ∙ found.3 ∙ same)

reach_fine : (p : Problem) (pairs : List (ℕ × ℕ)) → reach_fault p pairs ≡ None → All (λ (q : ℕ × ℕ). IsAllowed p q.0 q.1) pairs
unfolding reach_fault
reach_fine p pairs e = All-from_get_or (λ (q : ℕ × ℕ). IsAllowed p q.0 q.1) pairs (0, 0) (λ place l.
    (let q = pair_at pairs place in allowed_in (row_of p q.0) q.1 (unless_none _ (OutOfReach q.0 q.1) (none_below (reach_fault_at p pairs) (length pairs) e place l))))

reach_none : (p : Problem) (pairs : List (ℕ × ℕ)) → All (λ (q : ℕ × ℕ). IsAllowed p q.0 q.1) pairs → reach_fault p pairs ≡ None
unfolding reach_fault
reach_none p pairs h = first_none (reach_fault_at p pairs) (length pairs) (λ place l. (let q = pair_at pairs place in unless_true _ (OutOfReach q.0 q.1) (is_allowed-from p q.0 q.1 (All-get_or (λ (r : ℕ × ℕ). IsAllowed p r.0 r.1) pairs place (0, 0) l h))))

-- the bins, each within its capacity
no_uses : (bins : ℕ) (pairs : List (ℕ × ℕ)) (bin : ℕ) → All (λ (q : ℕ × ℕ). q.1 < bins) pairs → bins ≤ bin → uses_of_bin pairs bin ≡ 0
no_uses bins [] bin h l = refl
no_uses bins (q ∷ pairs) bin h l =
    let here : q.1 < bins = All-head (λ (r : ℕ × ℕ). r.1 < bins) q pairs h in
    none_more _ _ (eqb q.1 bin) (ne_eqb q.1 bin (omega arith)) (no_uses bins pairs bin (All-tail (λ (r : ℕ × ℕ). r.1 < bins) q pairs h) l) (sum_by-cons (λ (r : ℕ × ℕ). cond (eqb r.1 bin) 1 0) q pairs)

limits_fine : (p : Problem) (pairs : List (ℕ × ℕ)) → limit_fault p pairs ≡ None → All (λ (q : ℕ × ℕ). q.1 < bins_of p) pairs → (bin : ℕ) → uses_of_bin pairs bin ≤ capacity_of p bin
unfolding limit_fault
limits_fine p pairs e inside bin = elim (cases_lt bin (bins_of p)) [
  | inl l ↦ leb-true _ _ (unless_none _ (OverLimit bin) (none_below (limit_fault_at p pairs) (bins_of p) e bin l))
  | inr g ↦ omega (arith, no_uses (bins_of p) pairs bin inside g)
]

limits_none : (p : Problem) (pairs : List (ℕ × ℕ)) → ((bin : ℕ) → uses_of_bin pairs bin ≤ capacity_of p bin) → limit_fault p pairs ≡ None
unfolding limit_fault
limits_none p pairs h = first_none (limit_fault_at p pairs) (bins_of p) (λ bin l. unless_true _ (OverLimit bin) (le-leb _ _ (h bin)))

-- the pairs of a plan without these faults
pub feasible_fine : (p : Problem) (pairs : List (ℕ × ℕ)) → IsProblem p → repeat_fault pairs ≡ None → reach_fault p pairs ≡ None → limit_fault p pairs ≡ None → IsFeasible p pairs
feasible_fine p pairs valid repeats reach limits =
    let allowed = reach_fine p pairs reach in
    let inside = All-weaker (λ (q : ℕ × ℕ). IsAllowed p q.0 q.1) (λ (q : ℕ × ℕ). q.1 < bins_of p) (λ q a. allowed_bin p valid q.0 q.1 a) pairs allowed in
    record { allowed = allowed; once = repeats_fine pairs repeats; within = limits_fine p pairs limits inside }

-- the prices, each pair at its weight or above
prices_fine : (p : Problem) (us vs : List ℕ) → price_fault p us vs ≡ None → (item bin : ℕ) → IsAllowed p item bin → weight_of p item bin ≤ get_or us item 0 + get_or vs bin 0
unfolding price_fault row_fault
prices_fine p us vs e item bin a =
    let row = none_below (row_fault p us vs) (items_of p) e item (allowed_item p item bin a) in
    let place = a.0 in
    let read : bin_at p item place ≡ bin = get_or_default (row_of p item) place 0 bin a.1 ∙ a.2 in
    let fine = leb-true _ _ (unless_none _ (PriceTooLow item (bin_at p item place)) (none_below (price_fault_at p us vs item) (length (row_of p item)) row place a.1)) in
    subst (λ (b : ℕ). weight_of p item b ≤ get_or us item 0 + get_or vs b 0) read fine

prices_none : (p : Problem) (us vs : List ℕ) → ((item bin : ℕ) → IsAllowed p item bin → weight_of p item bin ≤ get_or us item 0 + get_or vs bin 0) → price_fault p us vs ≡ None
unfolding price_fault row_fault
prices_none p us vs h = first_none (row_fault p us vs) (items_of p) (λ item l. first_none (price_fault_at p us vs item) (length (row_of p item)) (λ place m.
    unless_true _ (PriceTooLow item (bin_at p item place)) (le-leb _ _ (h item (bin_at p item place) (place, m, get_or_default (row_of p item) place (bin_at p item place) 0 m)))))

-- A plan without a fault is certified, and a certified plan has no fault.
pub fault_none : (p : Problem) (pairs : List (ℕ × ℕ)) (us vs : List ℕ) → IsProblem p → fault_of p pairs us vs ≡ None → IsCertified p pairs us vs
unfolding fault_of sum_fault
fault_none p pairs us vs valid e =
    let a = or_else_none (length_fault p us vs) _ e in
    let b = or_else_none (number_fault p pairs) _ a.1 in
    let c = or_else_none (repeat_fault pairs) _ b.1 in
    let d = or_else_none (reach_fault p pairs) _ c.1 in
    let f = or_else_none (limit_fault p pairs) _ d.1 in
    let g = or_else_none (price_fault p us vs) _ f.1 in
    let lengths = lengths_fine p us vs a.0 in
    record {
      feasible = feasible_fine p pairs valid c.0 d.0 f.0;
      priced = record { items = lengths.0; bins = lengths.1; pairs = prices_fine p us vs g.0 };
      sums = eqb-true _ _ (unless_none _ (SumsDiffer (value_of p us vs) (weight_sum p pairs)) g.1) ∙ sym (worth_parts p pairs);
    }

pub certified_none : (p : Problem) (pairs : List (ℕ × ℕ)) (us vs : List ℕ) → IsProblem p → IsCertified p pairs us vs → fault_of p pairs us vs ≡ None
unfolding fault_of sum_fault
certified_none p pairs us vs valid h =
    let inside = λ (place : ℕ) (l : place < length pairs). (let q = pair_at pairs place in let a : IsAllowed p q.0 q.1 = All-get_or (λ (r : ℕ × ℕ). IsAllowed p r.0 r.1) pairs place (0, 0) l h.feasible.allowed in let r : (q.0 < items_of p) × (q.1 < bins_of p) = (allowed_item p q.0 q.1 a, allowed_bin p valid q.0 q.1 a) in r) in
    both_none (length_fault p us vs) _ (lengths_none p us vs h.priced.items h.priced.bins)
    (both_none (number_fault p pairs) _ (numbers_none p pairs inside)
    (both_none (repeat_fault pairs) _ (repeats_none pairs h.feasible.once)
    (both_none (reach_fault p pairs) _ (reach_none p pairs h.feasible.allowed)
    (both_none (limit_fault p pairs) _ (limits_none p pairs h.feasible.within)
    (both_none (price_fault p us vs) _ (prices_none p us vs h.priced.pairs)
    (unless_true _ (SumsDiffer (value_of p us vs) (weight_sum p pairs)) (eq-eqb _ _ (h.sums ∙ worth_parts p pairs))))))))
