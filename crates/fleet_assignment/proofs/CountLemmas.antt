-- Counting the pairs of a list: what stands in an allocation, what is kept, and how many items there are.
use Rattle.std.proofs.Common.{◌≡◌, ℕ, zero, suc, ◌+◌, ◌*◌, ◌<◌, ◌≤◌, ◌&&◌, ◌||◌, ◌⊎◌, List, [], ◌∷◌, Bool, true, false, Option, Some, None, All, length, get_or, cond, eqb, count_by, sum_by, refl, ap, inl, inr, arith}
use Rattle.std.specs.Prelude.{not, map, is_some}
use Rattle.std.proofs.Math.Nat.{mul-le-mul_left}
use Rattle.std.proofs.lemmas.Bool.{cases_Bool}
use Rattle.std.proofs.lemmas.List.Elements.{All-weaker}
use Rattle.std.proofs.lemmas.List.Sums.{sum_by-cons}
use Rattle.price_certificate.specs.Problem.{Problem, IsProblem, IsAllowed, items_of, before_of, before_count, is_bin, was_in}
use Rattle.price_certificate.specs.Assignment.{IsFeasible, kept, uses_of_item}
use Rattle.price_certificate.specs.Certificate.{sum_below}
use Rattle.price_certificate.proofs.Duality.{allowed_item}
use Rattle.price_certificate.proofs.Sums.{sum_below-front, sum_below-le, sum_by_key, sum_by-least}
use Rattle.fleet_assignment.specs.Best.{stands_in}
use Rattle.fleet_assignment.specs.Beside.{beside}

one_of : (b : Bool) → (let r : ℕ = cond b 1 0 in r) + cond (not b) 1 0 ≡ 1
one_of true = refl
one_of false = refl

-- what passes and what does not are all
pub both_count : {X : Type 0} (p : X → Bool) (xs : List X) → count_by p xs + count_by (λ x. not (p x)) xs ≡ length xs
both_count p [] = refl
both_count {X} p (x ∷ xs) = omega (arith, both_count p xs, sum_by-cons (λ (y : X). cond (p y) 1 0) x xs, sum_by-cons (λ (y : X). cond (not (p y)) 1 0) x xs, one_of (p x))

pub sum_by-map : {X Y : Type 0} (v : Y → ℕ) (f : X → Y) (xs : List X) → sum_by v (map f xs) ≡ sum_by (λ x. v (f x)) xs
sum_by-map v f [] = refl
sum_by-map {X} {Y} v f (x ∷ xs) = omega (arith, sum_by-map v f xs, sum_by-cons v (f x) (map f xs), sum_by-cons (λ (y : X). v (f y)) x xs)

pub ones : {X : Type 0} (xs : List X) → sum_by (λ x. 1) xs ≡ length xs
ones [] = refl
ones {X} (x ∷ xs) = omega (arith, ones xs, sum_by-cons (λ (y : X). (let n : ℕ = 1 in n)) x xs)

weaker_by : (b c : Bool) → (b ≡ true → c ≡ true) → (let r : ℕ = cond b 1 0 in r) ≤ cond c 1 0
weaker_by false c h = omega arith
weaker_by true true h = omega arith
weaker_by true false h = let s : false ≡ true = h refl in cc

-- a test that passes wherever another does passes as often
pub count_weaker : {X : Type 0} (p q : X → Bool) (xs : List X) → All (λ x. p x ≡ true → q x ≡ true) xs → count_by p xs ≤ count_by q xs
count_weaker {X} p q xs all = sum_by-least (λ (x : X). cond (p x) 1 0) (λ (x : X). cond (q x) 1 0) xs (λ k d l. weaker_by (p (get_or xs k d)) (q (get_or xs k d)) (all k d l))

-- a pair that passes, or none does
pub record Passes (p : ℕ × ℕ → Bool) (pairs : List (ℕ × ℕ)) : Type 0 where
  pub place : ℕ
  pub in_range : place < length pairs
  pub pass : p (get_or pairs place (0, 0)) ≡ true

pub passes_or : (p : ℕ × ℕ → Bool) (pairs : List (ℕ × ℕ)) → (count_by p pairs ≡ 0) ⊎ Passes p pairs
passes_or p [] = inl refl
passes_or p (q ∷ pairs) = elim (cases_Bool (p q)) [
  | inl e ↦ inr (record { place = 0; in_range = omega arith; pass = e })
  | inr d ↦ elim (passes_or p pairs) [
    | inl none ↦ inl (omega (arith, none, sum_by-cons (λ (r : ℕ × ℕ). cond (p r) 1 0) q pairs, ap (λ (b : Bool). (let r : ℕ = cond b 1 0 in r)) d))
    | inr more ↦ inr (record { place = suc more.place; in_range = omega (arith, more.in_range); pass = more.pass })
  ]
]

-- nothing stands beside a number that no pair has
none_by : (c : Bool) (x n : ℕ) (o : Option ℕ) → (let r : ℕ = cond c 1 0 in r) + n ≡ 0 → (n ≡ 0 → o ≡ None) → cond c (Some x) o ≡ None
none_by true x n o e h = absurd (omega arith)
none_by false x n o e h = h (omega arith)

pub beside_none : (pairs : List (ℕ × ℕ)) (number : ℕ) → count_by (λ (q : ℕ × ℕ). eqb q.0 number) pairs ≡ 0 → beside pairs number ≡ None
beside_none [] number e = refl
beside_none (q ∷ pairs) number e =
    none_by (eqb q.0 number) q.1 (count_by (λ (r : ℕ × ℕ). eqb r.0 number) pairs) (beside pairs number) (omega (arith, e, sum_by-cons (λ (r : ℕ × ℕ). cond (eqb r.0 number) 1 0) q pairs)) (beside_none pairs number)

absent_by : (c d s : Bool) (n : ℕ) → (let r : ℕ = cond c 1 0 in r) + n ≡ 0 → (n ≡ 0 → s ≡ false) → ((c && d) || s) ≡ false
absent_by true d s n e h = absurd (omega arith)
absent_by false d s n e h = h (omega arith)

-- a pair of a target that no pair has does not stand in the list
pub absent : (pairs : List (ℕ × ℕ)) (q : ℕ × ℕ) → count_by (λ (r : ℕ × ℕ). eqb r.0 q.0) pairs ≡ 0 → stands_in pairs q ≡ false
absent [] q e = refl
absent (x ∷ pairs) q e =
    absent_by (eqb x.0 q.0) (eqb x.1 q.1) (stands_in pairs q) (count_by (λ (r : ℕ × ℕ). eqb r.0 q.0) pairs) (omega (arith, e, sum_by-cons (λ (r : ℕ × ℕ). cond (eqb r.0 q.0) 1 0) x pairs)) (absent pairs q)

or_false : (a b : Bool) → b ≡ false → (a || b) ≡ a
or_false true b e = refl
or_false false b e = e

stands_by : (c : Bool) (x y n : ℕ) (s : Bool) (o : Option ℕ) → (let r : ℕ = cond c 1 0 in r) + n ≤ 1 → (n ≡ 0 → s ≡ false) → (n ≤ 1 → s ≡ is_bin o y) → ((c && eqb x y) || s) ≡ is_bin (cond c (Some x) o) y
stands_by true x y n s o few none rest = or_false (eqb x y) s (none (omega arith))
stands_by false x y n s o few none rest = rest (omega arith)

-- where no target stands twice, a pair stands in the list if its collector stands beside its target
pub stands_beside : (pairs : List (ℕ × ℕ)) (q : ℕ × ℕ) → count_by (λ (r : ℕ × ℕ). eqb r.0 q.0) pairs ≤ 1 → stands_in pairs q ≡ is_bin (beside pairs q.0) q.1
stands_beside [] q few = refl
stands_beside (x ∷ pairs) q few =
    stands_by (eqb x.0 q.0) x.1 q.1 (count_by (λ (r : ℕ × ℕ). eqb r.0 q.0) pairs) (stands_in pairs q) (beside pairs q.0) (omega (arith, few, sum_by-cons (λ (r : ℕ × ℕ). cond (eqb r.0 q.0) 1 0) x pairs)) (absent pairs q)
    (stands_beside pairs q)

ones_below : (n : ℕ) → sum_below (λ k. 1) n ≡ n
ones_below zero = refl
ones_below (suc n) = omega (arith, ones_below n)

-- where no item stands twice, there are at most as many pairs as items
pub pairs_most : (items : ℕ) (pairs : List (ℕ × ℕ)) → All (λ (q : ℕ × ℕ). q.0 < items) pairs → ((item : ℕ) → uses_of_item pairs item ≤ 1) → length pairs ≤ items
pairs_most items pairs inside once =
    let e = sum_by_key (λ (q : ℕ × ℕ). q.0) (λ k. (let n : ℕ = 1 in n)) items pairs inside in
    let l = sum_below-le (λ k. 1 * uses_of_item pairs k) (λ k. (let n : ℕ = 1 in n)) items (λ k m. omega (arith, once k)) in
    omega (arith, e, l, ones pairs, ones_below items)

before_below : (bins : List (Option ℕ)) → count_by is_some bins ≡ sum_below (λ k. cond (is_some (get_or bins k None)) 1 0) (length bins)
before_below [] = refl
before_below (o ∷ bins) =
    omega (arith, before_below bins, sum_by-cons (λ (b : Option ℕ). cond (is_some b) 1 0) o bins, sum_below-front (λ k. cond (is_some (get_or (o ∷ bins) k None)) 1 0) (length bins))

was_some : (o : Option ℕ) (bin : ℕ) → is_bin o bin ≡ true → is_some o ≡ true
was_some None bin e = e
was_some (Some x) bin e = refl

-- a feasible list keeps at most what there was
pub kept_most : (p : Problem) (pairs : List (ℕ × ℕ)) → IsProblem p → IsFeasible p pairs → kept p pairs ≤ before_count p
kept_most p pairs valid h =
    let was : ℕ → ℕ = λ k. cond (is_some (before_of p k)) 1 0 in
    let inside = All-weaker (λ (q : ℕ × ℕ). IsAllowed p q.0 q.1) (λ (q : ℕ × ℕ). q.0 < items_of p) (λ q a. allowed_item p q.0 q.1 a) _ h.allowed in
    let some = count_weaker (λ (q : ℕ × ℕ). was_in p q.0 q.1) (λ (q : ℕ × ℕ). is_some (before_of p q.0)) pairs (λ k d l e. was_some (before_of p (get_or pairs k d).0) (get_or pairs k d).1 e) in
    let by_item = sum_by_key (λ (q : ℕ × ℕ). q.0) was (items_of p) pairs inside in
    let least = sum_below-le (λ k. was k * uses_of_item pairs k) was (items_of p) (λ k l. omega (arith, mul-le-mul_left (was k) (h.once k))) in
    omega (arith, some, by_item, least, before_below p.before, ap (λ (n : ℕ). sum_below was n) valid.items)
