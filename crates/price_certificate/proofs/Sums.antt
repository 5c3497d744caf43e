-- Sums below a number, and sums over a list gathered by a key.
use Rattle.std.proofs.Common.{◌≡◌, ◌+◌, ◌*◌, ◌<◌, ◌≤◌, ◌≢◌, ℕ, inl, inr, zero, suc, cond, eqb, List, [], ◌∷◌, All, length, get_or, sum, sum_by, count_by, refl, sym, ap, ◌∙◌, arith, mul-add}
use Rattle.std.proofs.lemmas.List.Sums.{sum_by-cons}
use Rattle.std.proofs.lemmas.List.Elements.{All-head, All-tail}
use Rattle.std.proofs.lemmas.Bool.Decides.{nat_tests}
use Rattle.std.proofs.lemmas.Bool.{cases_eq}
use Rattle.price_certificate.specs.Certificate.{sum_below}

pub sum_below-same : (f g : ℕ → ℕ) (n : ℕ) → ((k : ℕ) → k < n → f k ≡ g k) → sum_below f n ≡ sum_below g n
sum_below-same f g zero h = refl
sum_below-same f g (suc n) h = omega (arith, sum_below-same f g n (λ k l. h k (omega arith)), h n (omega arith))

pub sum_below-le : (f g : ℕ → ℕ) (n : ℕ) → ((k : ℕ) → k < n → f k ≤ g k) → sum_below f n ≤ sum_below g n
sum_below-le f g zero h = omega arith
sum_below-le f g (suc n) h = omega (arith, sum_below-le f g n (λ k l. h k (omega arith)), h n (omega arith))

pub sum_below-add : (f g : ℕ → ℕ) (n : ℕ) → sum_below (λ k. f k + g k) n ≡ sum_below f n + sum_below g n
sum_below-add f g zero = omega arith
sum_below-add f g (suc n) = omega (arith, sum_below-add f g n)

pub sum_below-zero : (f : ℕ → ℕ) (n : ℕ) → sum_below (λ k. f k * 0) n ≡ 0
sum_below-zero f zero = refl
sum_below-zero f (suc n) = omega (arith, sum_below-zero f n)

-- nothing below m
sum_below-none : (f : ℕ → ℕ) (m n : ℕ) → n ≤ m → sum_below (λ k. f k * cond (eqb m k) 1 0) n ≡ 0
sum_below-none f m zero h = refl
sum_below-none f m (suc n) h =
    let before = sum_below-none f m n (omega arith) in
    grind (arith, nat_tests, before)

one_last : (f : ℕ → ℕ) (m n : ℕ) → m ≡ n → sum_below (λ k. f k * cond (eqb m k) 1 0) n + f n * cond (eqb m n) 1 0 ≡ f m
one_last f m n e =
    let before = sum_below-none f m n (omega arith) in
    grind (arith, nat_tests, before, ap f e)

one_before : (f : ℕ → ℕ) (m n : ℕ) → m ≢ n → sum_below (λ k. f k * cond (eqb m k) 1 0) n ≡ f m → sum_below (λ k. f k * cond (eqb m k) 1 0) n + f n * cond (eqb m n) 1 0 ≡ f m
one_before f m n d e = grind (arith, nat_tests)

-- the one term at m
pub sum_below-one : (f : ℕ → ℕ) (m n : ℕ) → m < n → sum_below (λ k. f k * cond (eqb m k) 1 0) n ≡ f m
sum_below-one f m zero h = absurd (omega arith)
sum_below-one f m (suc n) h = elim (cases_eq m n) [ inl e ↦ one_last f m n e | inr d ↦ one_before f m n d (sum_below-one f m n (omega arith)) ]

pub sum_below-front : (f : ℕ → ℕ) (n : ℕ) → sum_below f (suc n) ≡ f 0 + sum_below (λ k. f (suc k)) n
sum_below-front f zero = omega arith
sum_below-front f (suc n) = omega (arith, sum_below-front f n)

pub sum_is_below : (xs : List ℕ) → sum xs ≡ sum_below (λ k. get_or xs k 0) (length xs)
sum_is_below [] = refl
sum_is_below (x ∷ xs) = omega (arith, sum_by-cons (λ (y : ℕ). y) x xs, sum_is_below xs, sum_below-front (λ k. get_or (x ∷ xs) k 0) (length xs))

-- A sum over the elements of a list, gathered by a key below n.
pub sum_by_key : {X : Type 0} (key : X → ℕ) (f : ℕ → ℕ) (n : ℕ) (xs : List X) → All (λ x. key x < n) xs → sum_by (λ x. f (key x)) xs ≡ sum_below (λ k. f k * count_by (λ x. eqb (key x) k) xs) n
sum_by_key key f n [] h = sym (sum_below-zero f n)
sum_by_key {X} key f n (x ∷ xs) h =
    let rest = sum_by_key key f n xs (All-tail (λ y. key y < n) x xs h) in
    let here = sum_below-one f (key x) n (All-head (λ y. key y < n) x xs h) in
    let both = sum_below-add (λ k. f k * cond (eqb (key x) k) 1 0) (λ k. f k * count_by (λ (y : X). eqb (key y) k) xs) n in
    let each = sum_below-same (λ k. f k * count_by (λ (y : X). eqb (key y) k) (x ∷ xs)) (λ k. f k * cond (eqb (key x) k) 1 0 + f k * count_by (λ (y : X). eqb (key y) k) xs) n
    (λ k l. ap (λ (c : ℕ). f k * c) (sum_by-cons (λ (y : X). cond (eqb (key y) k) 1 0) x xs) ∙ mul-add (f k) _ _) in
    omega (arith, rest, here, both, each, sum_by-cons (λ (y : X). f (key y)) x xs)

pub sum_by-same : {X : Type 0} (f g : X → ℕ) (xs : List X) → All (λ x. f x ≡ g x) xs → sum_by f xs ≡ sum_by g xs
sum_by-same f g [] h = refl
sum_by-same {X} f g (x ∷ xs) h =
    let rest = sum_by-same f g xs (All-tail (λ y. f y ≡ g y) x xs h) in
    let here : f x ≡ g x = All-head (λ y. f y ≡ g y) x xs h in
    omega (arith, rest, here, sum_by-cons f x xs, sum_by-cons g x xs)

pub sum_by-least : {X : Type 0} (f g : X → ℕ) (xs : List X) → All (λ x. f x ≤ g x) xs → sum_by f xs ≤ sum_by g xs
sum_by-least f g [] h = omega arith
sum_by-least {X} f g (x ∷ xs) h =
    let rest = sum_by-least f g xs (All-tail (λ y. f y ≤ g y) x xs h) in
    let here : f x ≤ g x = All-head (λ y. f y ≤ g y) x xs h in
    omega (arith, rest, here, sum_by-cons f x xs, sum_by-cons g x xs)

pub sum_by-add : {X : Type 0} (f g : X → ℕ) (xs : List X) → sum_by (λ x. f x + g x) xs ≡ sum_by f xs + sum_by g xs
sum_by-add f g [] = refl
sum_by-add {X} f g (x ∷ xs) = omega (arith, sum_by-add f g xs, sum_by-cons f x xs, sum_by-cons g x xs, sum_by-cons (λ (y : X). f y + g y) x xs)
