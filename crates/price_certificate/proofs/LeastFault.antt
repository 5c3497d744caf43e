-- The fault of prices names the least item, and of that the least bin.
use Rattle.std.proofs.Common.{◌≡◌, ◌+◌, ◌<◌, ◌≤◌, ℕ, zero, suc, Bool, true, false, List, Option, Some, None, length, get_or, inl, inr, refl, sym, ap, subst, ◌∙◌, arith}
use Rattle.std.specs.Prelude.{nat_le}
use Rattle.std.specs.List.Sorted.{IsStrictlyIncreasing}
use Rattle.std.proofs.lemmas.Bool.{cases_lt, leb-true}
use Rattle.std.proofs.lemmas.List.{get_or_default}
use Rattle.std.proofs.lemmas.List.Kept.{AllPairs-from_increasing}
use Rattle.price_certificate.specs.Problem.{items_of, row_of, weight_of}
use Rattle.price_certificate.specs.Faults.{PriceFaultIsLeast, bin_at, fault_unless, first_below, or_else, price_fault, price_fault_at, row_fault}
use Rattle.price_certificate.specs.declared.verdict.Fault.TheVariants.{PriceTooLow}
use Rattle.price_certificate.proofs.First.{none_below, unless_none}
use Rattle.price_certificate.proofs.InstanceRows.{is_row}

-- where the first of a list of places stands
record IsFirst {A : Type 0} (f : ℕ → Option A) (n : ℕ) (x : A) : Type 0 where
  pub place : ℕ
  pub below : place < n
  pub here : f place ≡ Some x
  pub none : first_below f place ≡ None

last_or : {A : Type 0} (f : ℕ → Option A) (n : ℕ) (x : A) (o : Option A) → first_below f n ≡ o → or_else o (f n) ≡ Some x → (o ≡ Some x → IsFirst f n x) → IsFirst f (suc n) x
last_or f n x None none e rest = record { place = n; below = omega arith; here = e; none = none }
last_or f n x (Some y) some e rest = let first = rest e in record { place = first.place; below = omega (arith, first.below); here = first.here; none = first.none }

is_first : {A : Type 0} (f : ℕ → Option A) (n : ℕ) (x : A) → first_below f n ≡ Some x → IsFirst f n x
is_first f zero x e = cc
is_first f (suc n) x e = last_or f n x (first_below f n) refl e (is_first f n x)

-- what a fault at a place names
named : (b : Bool) (item bin other other_bin : ℕ) → fault_unless b (PriceTooLow other other_bin) ≡ Some (PriceTooLow item bin) → (other ≡ item) × (other_bin ≡ bin)
named true item bin other other_bin e = cc
named false item bin other other_bin e = (cc, cc)

-- the bins of a row rise
rises : (row : List ℕ) → IsStrictlyIncreasing row → (i j : ℕ) → i ≤ j → j < length row → get_or row i 0 ≤ get_or row j 0
rises row asc i j l inside = elim (cases_lt i j) [
  | inl m ↦ omega (arith, AllPairs-from_increasing row asc i j 0 m inside)
  | inr g ↦ let e : i ≡ j = omega arith in subst (λ (k : ℕ). get_or row i 0 ≤ get_or row k 0) e (omega arith)
]

pub price_fault_is_least : PriceFaultIsLeast
unfolding price_fault row_fault
price_fault_is_least p us vs item bin valid e other other_bin allowed low =
    let row = is_first (row_fault p us vs) (items_of p) (PriceTooLow item bin) e in
    let at = is_first (price_fault_at p us vs row.place) (length (row_of p row.place)) (PriceTooLow item bin) row.here in
    let names = named (nat_le (weight_of p row.place (bin_at p row.place at.place)) (get_or us row.place 0 + get_or vs (bin_at p row.place at.place) 0)) item bin row.place (bin_at p row.place at.place) at.here in
    let place : ℕ = allowed.0 in
    let read : bin_at p other place ≡ other_bin = get_or_default (row_of p other) place 0 other_bin allowed.1 ∙ allowed.2 in
    let fine = λ (o : price_fault_at p us vs other place ≡ None).
    (let h : weight_of p other (bin_at p other place) ≤ get_or us other 0 + get_or vs (bin_at p other place) 0 = leb-true _ _ (unless_none _ (PriceTooLow other (bin_at p other place)) o) in
    let g : weight_of p other other_bin ≤ get_or us other 0 + get_or vs other_bin 0 = subst (λ (b : ℕ). weight_of p other b ≤ get_or us other 0 + get_or vs b 0) read h in g) in
    elim (cases_lt other row.place) [
      | inl before ↦
          let clean = none_below (row_fault p us vs) row.place row.none other before in
          let h = fine (none_below (price_fault_at p us vs other) (length (row_of p other)) clean place allowed.1) in
          absurd (omega (arith, h, low))
      | inr g ↦ elim (cases_lt row.place other) [
        | inl later ↦ inl (omega (arith, names.0, later))
        | inr same ↦
            let is : row.place ≡ other = omega arith in
            let inside : place < length (row_of p row.place) = subst (λ (i : ℕ). place < length (row_of p i)) (sym is) allowed.1 in
            let here : bin_at p row.place place ≡ other_bin = ap (λ (i : ℕ). bin_at p i place) is ∙ read in
            inr (
              sym names.0 ∙ is,
              elim (cases_lt place at.place) [
                | inl before ↦
                    let clean = none_below (price_fault_at p us vs row.place) at.place at.none place before in
                    let h = fine (subst (λ (i : ℕ). price_fault_at p us vs i place ≡ None) is clean) in
                    absurd (omega (arith, h, low))
                | inr behind ↦ omega (arith, rises (row_of p row.place) (is_row p valid row.place row.below).ascending at.place place behind inside, names.1, here)
              ],
            )
      ]
    ]
