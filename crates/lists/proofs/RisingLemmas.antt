-- Lists that rise, and tests of each element.
use Rattle.std.proofs.Common.{◌≡◌, ℕ, zero, suc, ◌+◌, ◌<◌, Bool, true, List, [], ◌∷◌, All, get_or, refl, sym, subst, arith}
use Rattle.std.specs.List.{list_all}
use Rattle.std.specs.List.Sorted.{IsStrictlyIncreasing}
use Rattle.std.proofs.lemmas.List.Elements.{All-nil, All-cons}
use Rattle.std.proofs.lemmas.Bool.{and_parts, and_from, ltb-true, lt-ltb}
use Rattle.lists.specs.Rising.{rises}

rises_next : (n m : ℕ) (more : List ℕ) → IsStrictlyIncreasing (n ∷ m ∷ more) → IsStrictlyIncreasing (m ∷ more)
rises_next n m more h k l =
    let next : suc k + 1 ≡ suc (k + 1) = omega arith in
    subst (λ (i : ℕ). get_or (m ∷ more) k 0 < get_or (n ∷ m ∷ more) i 0) next (h (suc k) (omega (arith, l)))

pub rises_from : (xs : List ℕ) → IsStrictlyIncreasing xs → rises xs ≡ true
rises_from [] h = refl
rises_from (n ∷ []) h = refl
rises_from (n ∷ m ∷ more) h = and_from _ _ (lt-ltb n m (h 0 (omega arith))) (rises_from (m ∷ more) (rises_next n m more h))

rises_cons : (n m : ℕ) (more : List ℕ) → n < m → IsStrictlyIncreasing (m ∷ more) → IsStrictlyIncreasing (n ∷ m ∷ more)
rises_cons n m more l h zero k = l
rises_cons n m more l h (suc i) k =
    let next : suc i + 1 ≡ suc (i + 1) = omega arith in
    subst (λ (j : ℕ). get_or (m ∷ more) i 0 < get_or (n ∷ m ∷ more) j 0) (sym next) (h i (omega (arith, k)))

pub rises_to : (xs : List ℕ) → rises xs ≡ true → IsStrictlyIncreasing xs
rises_to [] e = λ k l. absurd (omega (arith, l))
rises_to (n ∷ []) e = λ k l. absurd (omega (arith, l))
rises_to (n ∷ m ∷ more) e = rises_cons n m more (ltb-true n m (and_parts _ _ e).0) (rises_to (m ∷ more) (and_parts _ _ e).1)

pub all_to : {X : Type 0} (p : X → Bool) (P : X → Type 0) → ((x : X) → p x ≡ true → P x) → (xs : List X) → list_all p xs ≡ true → All P xs
all_to p P each [] e = All-nil P
all_to p P each (x ∷ xs) e = All-cons P x xs (each x (and_parts _ _ e).0) (all_to p P each xs (and_parts _ _ e).1)

pub all_from : {X : Type 0} (p : X → Bool) (P : X → Type 0) → ((x : X) → P x → p x ≡ true) → (xs : List X) → All P xs → list_all p xs ≡ true
all_from p P each [] h = refl
all_from p P each (x ∷ xs) h = and_from _ _ (each x (h 0 x (omega arith))) (all_from p P each xs (λ k d l. h (suc k) d (omega (arith, l))))
