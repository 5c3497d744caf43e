-- The first fault that there is, in a list of places and in a list of kinds.
use Rattle.std.proofs.Common.{◌≡◌, ◌+◌, ◌<◌, ℕ, zero, suc, Bool, true, false, Option, Some, None, inl, inr, refl, ap, subst, ◌∙◌, arith}
use Rattle.std.proofs.lemmas.Bool.{cases_lt}
use Rattle.price_certificate.specs.Faults.{or_else, first_below, fault_unless}
use Rattle.price_certificate.specs.declared.verdict.Fault.{Fault}

pub first_found : {A : Type 0} (f : ℕ → Option A) (n i : ℕ) (x : A) → i < n → first_below f i ≡ None → f i ≡ Some x → first_below f n ≡ Some x
first_found f zero i x l none here = absurd (omega arith)
first_found {A} f (suc n) i x l none here = elim (cases_lt i n) [
  | inl m ↦ ap (λ (o : Option A). or_else o (f n)) (first_found f n i x m none here)
  | inr g ↦ let e : i ≡ n = omega arith in ap (λ (o : Option A). or_else o (f n)) (subst (λ (k : ℕ). first_below f k ≡ None) e none) ∙ subst (λ (k : ℕ). f k ≡ Some x) e here
]

pub first_none : {A : Type 0} (f : ℕ → Option A) (n : ℕ) → ((i : ℕ) → i < n → f i ≡ None) → first_below f n ≡ None
first_none f zero h = refl
first_none {A} f (suc n) h = ap (λ (o : Option A). or_else o (f n)) (first_none f n (λ i l. h i (omega arith))) ∙ h n (omega arith)

pub or_else_none : {A : Type 0} (a b : Option A) → or_else a b ≡ None → (a ≡ None) × (b ≡ None)
or_else_none None b e = (refl, e)
or_else_none (Some x) b e = cc

pub both_none : {A : Type 0} (a b : Option A) → a ≡ None → b ≡ None → or_else a b ≡ None
both_none None b e f = f
both_none (Some x) b e f = e

pub none_below : {A : Type 0} (f : ℕ → Option A) (n : ℕ) → first_below f n ≡ None → (i : ℕ) → i < n → f i ≡ None
none_below f zero h i l = absurd (omega arith)
none_below {A} f (suc n) h i l =
    let parts = or_else_none (first_below f n) (f n) h in
    elim (cases_lt i n) [
      | inl m ↦ none_below f n parts.0 i m
      | inr g ↦ let e : n ≡ i = omega arith in subst (λ (k : ℕ). f k ≡ None) e parts.1
    ]

pub unless_true : (b : Bool) (fault : Fault) → b ≡ true → fault_unless b fault ≡ None
unless_true b fault e = ap (λ (t : Bool). fault_unless t fault) e

pub unless_false : (b : Bool) (fault : Fault) → b ≡ false → fault_unless b fault ≡ Some fault
unless_false b fault e = ap (λ (t : Bool). fault_unless t fault) e

pub unless_none : (b : Bool) (fault : Fault) → fault_unless b fault ≡ None → b ≡ true
unless_none true fault e = refl
unless_none false fault e = cc

pub first_more : {A : Type 0} (f : ℕ → Option A) (i : ℕ) → first_below f i ≡ None → f i ≡ None → first_below f (i + 1) ≡ None
first_more {A} f i none here = let s : suc i ≡ i + 1 = omega arith in subst (λ (k : ℕ). first_below f k ≡ None) s (both_none (first_below f i) (f i) none here)

-- the faults of the kinds in order
pub found_here : (a b : Option Fault) (fault : Fault) → a ≡ Some fault → or_else a b ≡ Some fault
found_here a b fault e = ap (λ (o : Option Fault). or_else o b) e

pub not_here : (a b : Option Fault) → a ≡ None → or_else a b ≡ b
not_here a b e = ap (λ (o : Option Fault). or_else o b) e
