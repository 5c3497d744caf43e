-- Parts of a fleet: what the tests of them find, and a set made of targets of which none is the same as an earlier one has them all.
use Rattle.std.proofs.Common.{◌≡◌, ◌≢◌, ◌+◌, ◌-◌, ◌≤◌, ◌<◌, ◌==◌, ℕ, zero, suc, List, [], ◌∷◌, ◌++◌, Bool, true, false, cond, length, get_or, refl, sym, ap, subst, ◌∙◌, arith, append_assoc, length-append}
use Rattle.std.specs.Prelude.{AllPairs}
use Rattle.std.specs.List.{list_any}
use Rattle.std.proofs.lemmas.List.Folds.{list_any_none}
use Rattle.std.proofs.lemmas.Bool.{and_parts}
use Rattle.lists.specs.Rising.{rises}
use Rattle.lists.proofs.RisingLemmas.{rises_to}
use Rattle.fleet.specs.KnownTarget.{same_known, with_known}
use Rattle.fleet.specs.Parts.{have_sources}
use Rattle.fleet.specs.declared.job.JobSpec.{JobSpec}
use Rattle.fleet.specs.declared.known_target.KnownTarget.{KnownTarget}

pub at_front : {A : Type 0} (xs ys : List A) (k : ℕ) (d : A) → k < length xs → get_or (xs ++ ys) k d ≡ get_or xs k d
at_front [] ys k d l = absurd (omega arith)
at_front (x ∷ xs) ys zero d l = refl
at_front (x ∷ xs) ys (suc k) d l = at_front xs ys k d (omega arith)

pub at_seam : {A : Type 0} (xs ys : List A) (y d : A) → get_or (xs ++ y ∷ ys) (length xs) d ≡ y
at_seam [] ys y d = refl
at_seam (x ∷ xs) ys y d = at_seam xs ys y d

abbrev pub AreDistinct : List KnownTarget → Type 0
AreDistinct targets = AllPairs (λ (a b : KnownTarget). same_known b a ≡ false) targets

-- one that stands behind others is none of them
fresh : (front back : List KnownTarget) (t : KnownTarget) → AreDistinct (front ++ t ∷ back) → list_any (same_known t) front ≡ false
fresh front back t once =
    list_any_none (same_known t) front
    (λ k d l.
    let size = length-append front (t ∷ back) in
    let e = once k (length front) d l (omega arith) in
    let this : get_or (front ++ t ∷ back) k d ≡ get_or front k d = at_front front (t ∷ back) k d l in
    let that : get_or (front ++ t ∷ back) (length front) d ≡ t = at_seam front back t d in
    (λ i. same_known (sym that i) (sym this i)) ∙ e)

pub entered_next : (keys rest all : List KnownTarget) (t : KnownTarget) → AreDistinct all → keys ++ t ∷ rest ≡ all → with_known keys t ++ rest ≡ all
entered_next keys rest all t once e =
    let new : list_any (same_known t) keys ≡ false = fresh keys rest t (subst AreDistinct (sym e) once) in
    ap (λ (b : Bool). cond b keys (keys ++ t ∷ []) ++ rest) new ∙ append_assoc keys (t ∷ []) rest ∙ e

-- ---- tests

not_true : (b : Bool) → (b ≡ true → ⊥) → b ≡ false
not_true true h = absurd (h refl)
not_true false h = refl

pub falls_at : (numbers : List ℕ) (i : ℕ) → 1 ≤ i → i < length numbers → get_or numbers i 0 ≤ get_or numbers (i - 1) 0 → rises numbers ≡ false
falls_at numbers i first inside low =
    not_true (rises numbers) (λ e.
    let next : (i - 1) + 1 ≡ i = omega arith in
    let up = rises_to numbers e (i - 1) (omega (arith, next, inside)) in
    let here : get_or numbers (i - 1) 0 < get_or numbers i 0 = subst (λ (k : ℕ). get_or numbers (i - 1) 0 < get_or numbers k 0) next up in
    omega (arith, here, low))

pub same_lengths : (jobs : List JobSpec) (listed : List (List (List ℕ))) → have_sources jobs listed ≡ true → length jobs ≡ length listed
same_lengths [] [] e = refl
same_lengths [] (sources ∷ listed) e = cc
same_lengths (job ∷ jobs) [] e = cc
same_lengths (job ∷ jobs) (sources ∷ listed) e = ap suc (same_lengths jobs listed (and_parts (length sources == job.sources) (have_sources jobs listed) e).1)

pub other_lengths : (jobs : List JobSpec) (listed : List (List (List ℕ))) → length jobs ≢ length listed → have_sources jobs listed ≡ false
other_lengths jobs listed h = not_true (have_sources jobs listed) (λ e. h (same_lengths jobs listed e))
