-- Sums over the parts of a list.
use Rattle.std.proofs.Common.{◌≡◌, ◌≢◌, ◌⊎◌, inl, inr, ℕ, zero, suc, ◌+◌, ◌<◌, ◌≤◌, ◌==◌, Bool, true, false, List, [], ◌∷◌, cond, eqb, sum_by, refl, sym, ap, ◌∙◌, arith}
use Rattle.std.specs.Prelude.{filter}
use Rattle.std.proofs.lemmas.Bool.{eq-eqb, ne_eqb}
use Rattle.std.proofs.Math.Nat.{eq-or-lt_of_le}
use Rattle.std.proofs.lemmas.List.Sums.{sum_by-cons}
use Rattle.price_certificate.specs.Certificate.{sum_below}
use Rattle.price_certificate.proofs.Sums.{sum_below-le, sum_below-same}

last_or_before : (k n : ℕ) → k < suc n → (k ≡ n) ⊎ (k < n)
last_or_before k n l = eq-or-lt_of_le {n = k} {m = n} (omega arith)

-- sums that differ at one place
pub sum_below-but_one : (f g : ℕ → ℕ) (k n : ℕ) → k < n → ((j : ℕ) → j < n → j ≢ k → f j ≡ g j) → sum_below f n + g k ≡ sum_below g n + f k
sum_below-but_one f g k zero l same = absurd (omega arith)
sum_below-but_one f g k (suc n) l same = elim (last_or_before k n l) [
  | inl e ↦
      let before : sum_below f n ≡ sum_below g n = sum_below-same f g n (λ j m. same j (omega arith) (λ (s : j ≡ k). absurd (omega arith))) in
      omega (arith, before, ap f e, ap g e)
  | inr m ↦
      let before = sum_below-but_one f g k n m (λ j o. same j (omega arith)) in
      let last : f n ≡ g n = same n (omega arith) (λ (s : n ≡ k). absurd (omega arith)) in
      omega (arith, before, last)
]

-- parts that are each no more, and the same together, are the same each
pub equal_parts : (f g : ℕ → ℕ) (n : ℕ) → ((j : ℕ) → j < n → f j ≤ g j) → sum_below f n ≡ sum_below g n → (j : ℕ) → j < n → f j ≡ g j
equal_parts f g zero less same j l = absurd (omega arith)
equal_parts f g (suc n) less same j l =
    let before : sum_below f n ≤ sum_below g n = sum_below-le f g n (λ i m. less i (omega arith)) in
    let last : f n ≤ g n = less n (omega arith) in
    elim (last_or_before j n l) [
      | inl e ↦ omega (arith, before, last, same, ap f e, ap g e)
      | inr m ↦ equal_parts f g n (λ i o. less i (omega arith)) (omega (arith, before, last, same)) j m
    ]

nothing_below : (n : ℕ) → sum_below (λ k. 0) n ≡ 0
nothing_below zero = refl
nothing_below (suc n) = omega (arith, nothing_below n)

-- what is summed up over a list is summed up over its parts
pub sum_of_parts : {X : Type 0} (part : X → ℕ) (f : X → ℕ) (n : ℕ) → ((x : X) → part x < n) → (xs : List X) → sum_by f xs ≡ sum_below (λ p. sum_by f (filter (λ x. part x == p) xs)) n
sum_of_parts part f n parted [] = sym (nothing_below n)
sum_of_parts {X} part f n parted (x ∷ xs) =
    let all : ℕ → ℕ = λ p. sum_by f (filter (λ (y : X). part y == p) (x ∷ xs)) in
    let rest : ℕ → ℕ = λ p. sum_by f (filter (λ (y : X). part y == p) xs) in
    let others : ℕ → List X = λ p. filter (λ (y : X). part y == p) xs in
    let other = λ (j : ℕ) (m : j < n) (d : j ≢ part x). (let e : all j ≡ rest j = ap (λ (b : Bool). sum_by f (cond b (x ∷ others j) (others j))) (ne_eqb (part x) j (λ s. d (sym s))) in e) in
    let here : all (part x) ≡ f x + rest (part x) = ap (λ (b : Bool). sum_by f (cond b (x ∷ others (part x)) (others (part x)))) (eq-eqb (part x) (part x) refl) ∙ sum_by-cons f x (others (part x)) in
    let both = sum_below-but_one all rest (part x) n (parted x) other in
    omega (arith, both, here, sum_of_parts part f n parted xs, sum_by-cons f x xs)
