-- The cheapest item of a bin.
use Rattle.std.proofs.Common.{◌≡◌, ◌+◌, ◌<◌, ◌≤◌, ℕ, List, Option, Some, None, IfSome, IfNone, inl, inr, length, get_or, sym, ap, subst, arith}
use Rattle.std.proofs.lemmas.Bool.{cases_eq, cases_lt}
use Rattle.std.proofs.lemmas.Bool.Decides.{nat_tests}
use Rattle.assign_engine.specs.Usable.{one_if}
use Rattle.assign_engine.specs.Seats.{sits, seat}
use Rattle.assign_engine.specs.Roll.{times_in}
use Rattle.assign_engine.specs.Pending.{cheaper_of}
use Rattle.assign_engine.proofs.Rolling.{one-there, times_place}

keeps : (best : ℕ × ℕ) (item price : ℕ) → best.1 ≤ price → cheaper_of (Some best) item price ≡ Some best
keeps best item price l = grind (arith, nat_tests)

takes : (best : ℕ × ℕ) (item price : ℕ) → price < best.1 → cheaper_of (Some best) item price ≡ Some (item, price)
takes best item price l = grind (arith, nat_tests)

module _ (ats : List (Option ℕ)) (us : List ℕ) (y : ℕ) (items : List ℕ) where
  -- the best of the first n items
  abbrev pub Best : ℕ → Option (ℕ × ℕ) → Type 0
  Best n o = IfSome o (λ r. seat ats r.0 ≡ Some y) × IfSome o (λ r. r.1 ≡ get_or us r.0 0) × IfSome o (λ r. (k : ℕ) → k < n → r.1 ≤ get_or us (get_or items k 0) 0) × IfNone o (n ≡ 0)

  up_to : (n x : ℕ) → ((k : ℕ) → k < n → x ≤ get_or us (get_or items k 0) 0) → x ≤ get_or us (get_or items n 0) 0 → (k : ℕ) → k < n + 1 → x ≤ get_or us (get_or items k 0) 0
  up_to n x h e k l = elim (cases_eq k n) [ inl q ↦ subst (λ (m : ℕ). x ≤ get_or us (get_or items m 0) 0) (sym q) e | inr q ↦ h k (omega arith) ]

  new_best : (n item price : ℕ) → item ≡ get_or items n 0 → price ≡ get_or us item 0 → seat ats item ≡ Some y → ((k : ℕ) → k < n → price ≤ get_or us (get_or items k 0) 0) → Best (n + 1) (Some (item, price))
  new_best n item price te pe s h = (s, pe, up_to n price h (let e = ap (λ (m : ℕ). get_or us m 0) te in omega arith), tt)

  more : (n item price : ℕ) → item ≡ get_or items n 0 → price ≡ get_or us item 0 → seat ats item ≡ Some y → (best : Option (ℕ × ℕ)) → IfSome best (λ r. seat ats r.0 ≡ Some y) → IfSome best (λ r. r.1 ≡ get_or us r.0 0) → IfSome best (λ r. (k : ℕ) → k < n → r.1 ≤ get_or us (get_or items k 0) 0) → IfNone best (n ≡ 0) → Best (n + 1) (cheaper_of best item price)
  more n item price te pe s None a b c z = new_best n item price te pe s (λ k l. absurd (omega arith))
  more n item price te pe s (Some best) a b c z = elim (cases_lt price best.1) [
    | inl l ↦ subst (Best (n + 1)) (sym (takes best item price l)) (new_best n item price te pe s (λ k m. omega (arith, c k m)))
    | inr l ↦ subst (Best (n + 1)) (sym (keeps best item price l)) (a, b, up_to n best.1 c (let e = ap (λ (m : ℕ). get_or us m 0) te in omega arith), tt)
  ]

  pub cheaper_more : (n : ℕ) (best new : Option (ℕ × ℕ)) (item price : ℕ) → new ≡ cheaper_of best item price → item ≡ get_or items n 0 → price ≡ get_or us item 0 → seat ats item ≡ Some y → IfSome best (λ r. seat ats r.0 ≡ Some y) → IfSome best (λ r. r.1 ≡ get_or us r.0 0) → IfSome best (λ r. (k : ℕ) → k < n → r.1 ≤ get_or us (get_or items k 0) 0) → IfNone best (n ≡ 0) → Best (n + 1) new
  cheaper_more n best new item price e te pe s a b c z = subst (Best (n + 1)) (sym e) (more n item price te pe s best a b c z)

  pub least_all : (n : ℕ) (best : Option (ℕ × ℕ)) → length items ≤ n → ((t : ℕ) → times_in items t ≡ one_if (sits y (seat ats t))) → IfSome best (λ r. (k : ℕ) → k < n → r.1 ≤ get_or us (get_or items k 0) 0) → IfSome best (λ r. (t : ℕ) → seat ats t ≡ Some y → r.1 ≤ get_or us t 0)
  least_all n None l each h = tt
  least_all n (Some best) l each h = λ t s.
      let listed : 0 < times_in items t = omega (arith, each t, ap (λ (o : Option ℕ). one_if (sits y o)) s, one-there y) in
      let place = times_place items t listed in
      subst (λ (u : ℕ). best.1 ≤ get_or us u 0) place.2 (h place.0 (omega (arith, place.1)))
