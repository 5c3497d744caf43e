-- What a heap of entries says of the list of its entries.
use Rattle.std.proofs.Common.{◌≡◌, ◌≤◌, ℕ, List, [], ◌∷◌, Contains, All, map, inl, inr, ◌⊎◌, false, refl, sym, subst, arith, zero, suc, Less, Equal, Greater, Ordering}
use Rattle.std.specs.BinaryHeap.{IsUpperBound}
use Rattle.std.specs.Ordering.{nat_cmp, ordering_then, is_lt}
use Rattle.std.specs.List.Sorted.{IsPermutation}
use Rattle.std.specs.declared.cmp.Reverse.{Reverse}
use Rattle.std.proofs.lemmas.List.Elements.{All-nil, All-cons, All-map, All-contains}
use Rattle.std.proofs.lemmas.List.Sorted.{IsPermutation-map, Contains-permutation}
use Rattle.std.proofs.lemmas.Bool.Decides.{nat_tests}

abbrev pub entry : Reverse (ℕ × ℕ × ℕ) → ℕ × ℕ
entry r = (r.0.0, r.0.2)

abbrev pub entries : List (Reverse (ℕ × ℕ × ℕ)) → List (ℕ × ℕ)
entries xs = map entry xs

abbrev pub order : Reverse (ℕ × ℕ × ℕ) → Reverse (ℕ × ℕ × ℕ) → Ordering
order x y = ordering_then (ordering_then (nat_cmp y.0.0 x.0.0) (nat_cmp y.0.1 x.0.1)) (nat_cmp y.0.2 x.0.2)

first_not_lt : (a b : Ordering) → is_lt (ordering_then a b) ≡ false → is_lt a ≡ false
first_not_lt Less b e = e
first_not_lt Equal b e = refl
first_not_lt Greater b e = refl

not_below : (a b : ℕ) → is_lt (nat_cmp a b) ≡ false → b ≤ a
not_below a b e = grind (arith, nat_tests)

least_of : (x : Reverse (ℕ × ℕ × ℕ)) (xs : List (Reverse (ℕ × ℕ × ℕ))) → IsUpperBound order x xs → All (λ (y : Reverse (ℕ × ℕ × ℕ)). x.0.0 ≤ y.0.0) xs
least_of x [] h = All-nil (λ (y : Reverse (ℕ × ℕ × ℕ)). x.0.0 ≤ y.0.0)
least_of x (y ∷ ys) h = All-cons (λ (z : Reverse (ℕ × ℕ × ℕ)). x.0.0 ≤ z.0.0) y ys (not_below y.0.0 x.0.0 (first_not_lt _ _ (first_not_lt _ _ h.0))) (least_of x ys h.1)

pub nearest_of : (x : Reverse (ℕ × ℕ × ℕ)) (xs : List (Reverse (ℕ × ℕ × ℕ))) → IsUpperBound order x xs → (e : ℕ × ℕ) → Contains (entries xs) e → x.0.0 ≤ e.0
nearest_of x xs h e m = All-contains (λ (z : ℕ × ℕ). x.0.0 ≤ z.0) (entries xs) e (All-map (λ (z : ℕ × ℕ). x.0.0 ≤ z.0) entry xs (least_of x xs h)) m

pub first_or_rest : {X : Type 0} (x : X) (xs : List X) (e : X) → Contains (x ∷ xs) e → (e ≡ x) ⊎ Contains xs e
first_or_rest x xs e (zero, l, q) = inl (sym q)
first_or_rest x xs e (suc k, l, q) = inr (k, omega arith, q)

pub Contains-later : {X : Type 0} (x : X) (xs : List X) (e : X) → Contains xs e → Contains (x ∷ xs) e
Contains-later x xs e (k, l, q) = (suc k, omega arith, q)

pub popped : (x : Reverse (ℕ × ℕ × ℕ)) (xs ys : List (Reverse (ℕ × ℕ × ℕ))) → IsPermutation xs (x ∷ ys) → (e : ℕ × ℕ) → Contains (entries xs) e → (e ≡ entry x) ⊎ Contains (entries ys) e
popped x xs ys h e m = first_or_rest (entry x) (entries ys) e (Contains-permutation _ _ e (IsPermutation-map entry xs (x ∷ ys) h) m)

pub pushed_kept : (x : Reverse (ℕ × ℕ × ℕ)) (xs ys : List (Reverse (ℕ × ℕ × ℕ))) → IsPermutation (x ∷ xs) ys → (e : ℕ × ℕ) → Contains (entries xs) e → Contains (entries ys) e
pushed_kept x xs ys h e m = Contains-permutation _ _ e (IsPermutation-map entry (x ∷ xs) ys h) (Contains-later (entry x) (entries xs) e m)

pub pushed_once : (x : Reverse (ℕ × ℕ × ℕ)) (xs ys : List (Reverse (ℕ × ℕ × ℕ))) (old : List (ℕ × ℕ)) → entries xs ≡ old → IsPermutation (x ∷ xs) ys → IsPermutation (entry x ∷ old) (entries ys)
pushed_once x xs ys old e h = subst (λ l. IsPermutation (entry x ∷ l) (entries ys)) e (IsPermutation-map entry (x ∷ xs) ys h)

pub popped_once : (x : Reverse (ℕ × ℕ × ℕ)) (xs ys : List (Reverse (ℕ × ℕ × ℕ))) (old : List (ℕ × ℕ)) → entries xs ≡ old → IsPermutation xs (x ∷ ys) → IsPermutation old (entry x ∷ entries ys)
popped_once x xs ys old e h = subst (λ l. IsPermutation l (entry x ∷ entries ys)) e (IsPermutation-map entry xs (x ∷ ys) h)

pub pushed_added : (x : Reverse (ℕ × ℕ × ℕ)) (xs ys : List (Reverse (ℕ × ℕ × ℕ))) → IsPermutation (x ∷ xs) ys → Contains (entries ys) (entry x)
pushed_added x xs ys h = Contains-permutation _ _ (entry x) (IsPermutation-map entry (x ∷ xs) ys h) (zero, omega arith, refl)
