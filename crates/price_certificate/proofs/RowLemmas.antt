-- What is known of rows that items share.
use Rattle.std.proofs.Common.{◌≡◌, ◌+◌, ◌<◌, ◌≤◌, ℕ, zero, suc, Bool, true, false, List, [], ◌∷◌, ◌++◌, All, None, inl, inr, length, get_or, map, take, sum_by, refl, sym, ap, subst, ◌∙◌, arith}
use Rattle.std.specs.Prelude.{nat_eq, not}
use Rattle.std.specs.Cmp.Lexicographic.{pointwise}
use Rattle.std.specs.List.{range_with_len}
use Rattle.std.proofs.lemmas.Slice.Eq.{slice_eq-Decides}
use Rattle.std.proofs.Math.ListN.{get_or-map as get_or-map-default}
use Rattle.std.proofs.lemmas.Bool.{cases_lt, le-leb}
use Rattle.std.proofs.lemmas.List.{get_or-map, get_or_past, length-map, map-id, take_all, take_more}
use Rattle.std.proofs.lemmas.List.FromFn.{map-range_with_len_more}
use Rattle.std.proofs.lemmas.List.Elements.{All-cons, All-get_or, All-head, All-nil, All-tail, All-weaker}
use Rattle.std.proofs.lemmas.List.Sums.{sum_by-cons}
use Rattle.price_certificate.specs.Problem.{Problem, IsRow, items_of, row_of, was_in, weight_of, weight_by, bin_worth, drains}
use Rattle.price_certificate.specs.Derived.{open_bins}
use Rattle.price_certificate.specs.Faults.{IsEnough, AreEnough, IsEnoughForEach, bin_at, price_fault_at, row_fault}
use Rattle.price_certificate.specs.Reach.{pairs_of}
use Rattle.price_certificate.specs.Rows.{row_at}
use Rattle.price_certificate.proofs.Sharing.{same_number}
use Rattle.price_certificate.proofs.First.{first_none, unless_true}

-- two slices that the code finds the same
not_of : (b : Bool) → false ≡ not b → true ≡ b
not_of true e = refl
not_of false e = cc

pub same_slices : (xs ys : List ℕ) → false ≡ not (pointwise nat_eq xs ys) → xs ≡ ys
same_slices xs ys e = (slice_eq-Decides same_number xs ys true (not_of (pointwise nat_eq xs ys) e)).0 refl

-- a row each: those below n of the numbers below n
rows_below : (lists : List (List ℕ)) (n : ℕ) → n ≤ length lists → map (row_at lists) (range_with_len 0 n) ≡ take n lists
rows_below lists zero l = refl
rows_below lists (suc n) l =
    let next : n + 1 ≡ suc n = omega arith in
    subst (λ (k : ℕ). map (row_at lists) (range_with_len 0 k) ≡ take k lists) next
    (map-range_with_len_more (row_at lists) 0 n n (omega arith) ∙ ap (λ (xs : List (List ℕ)). xs ++ row_at lists n ∷ []) (rows_below lists n (omega (arith, l))) ∙ sym (take_more lists n [] (omega (arith, l))))

-- one number more
pub numbers_more : (n : ℕ) → range_with_len 0 (n + 1) ≡ range_with_len 0 n ++ n ∷ []
numbers_more n = sym (map-id (range_with_len 0 (n + 1))) ∙ map-range_with_len_more (λ (x : ℕ). x) 0 n n (omega arith) ∙ ap (λ (xs : List ℕ). xs ++ n ∷ []) (map-id (range_with_len 0 n))

pub one_each : (lists : List (List ℕ)) → map (row_at lists) (range_with_len 0 (length lists)) ≡ lists
one_each lists = rows_below lists (length lists) (omega arith) ∙ take_all (length lists) lists (omega arith)

-- the row of an item is the list of its number
pub row_by : (lists : List (List ℕ)) (list_of : List ℕ) (item : ℕ) → item < length list_of → get_or (map (row_at lists) list_of) item [] ≡ row_at lists (get_or list_of item 0)
row_by lists list_of item l = get_or-map (row_at lists) list_of item 0 [] l

-- how many pairs there are
pub pairs_by : (lists : List (List ℕ)) (list_of : List ℕ) → sum_by (λ (row : List ℕ). length row) (map (row_at lists) list_of) ≡ pairs_of lists list_of
pairs_by lists [] = refl
pairs_by lists (number ∷ list_of) = omega (
  arith,
  sum_by-cons (λ (row : List ℕ). length row) (row_at lists number) (map (row_at lists) list_of),
  sum_by-cons (λ (n : ℕ). length (row_at lists n)) number list_of,
  pairs_by lists list_of,
)

-- where each list is a row, so is that of each number
all_at : (P : List ℕ → Type 0) (lists : List (List ℕ)) → P [] → All P lists → (number : ℕ) → P (row_at lists number)
all_at P lists none all number = elim (cases_lt number (length lists)) [
  | inl l ↦ All-get_or P lists number [] l all
  | inr g ↦ subst P (sym (get_or_past lists number [] (omega (arith, g)))) none
]

pub all_by : (P : List ℕ → Type 0) (lists : List (List ℕ)) → P [] → All P lists → (list_of : List ℕ) → All P (map (row_at lists) list_of)
all_by P lists none all [] = All-nil P
all_by P lists none all (number ∷ list_of) = All-cons P (row_at lists number) (map (row_at lists) list_of) (all_at P lists none all number) (all_by P lists none all list_of)

-- a property of the lists of these numbers
pub all_from : (P : List ℕ → Type 0) (lists : List (List ℕ)) (list_of : List ℕ) → All P (map (row_at lists) list_of) → All (λ number. P (row_at lists number)) list_of
all_from P lists [] h = All-nil (λ n. P (row_at lists n))
all_from P lists (number ∷ list_of) h = All-cons (λ n. P (row_at lists n)) number list_of (All-head P (row_at lists number) (map (row_at lists) list_of) h) (all_from P lists list_of (All-tail P (row_at lists number) (map (row_at lists) list_of) h))

-- no bin is a row
pub no_row : (bins : ℕ) → IsRow bins []
no_row bins = record { ascending = λ k l. absurd (omega (arith, l)); in_range = All-nil (λ b. b < bins) }

-- what is open of each list is open of each row
open_at : (caps : List ℕ) (lists : List (List ℕ)) (number : ℕ) → row_at (map (open_bins caps) lists) number ≡ open_bins caps (row_at lists number)
open_at caps lists number = get_or-map-default (open_bins caps) lists number []

pub open_by : (caps : List ℕ) (lists : List (List ℕ)) (list_of : List ℕ) → map (row_at (map (open_bins caps) lists)) list_of ≡ map (open_bins caps) (map (row_at lists) list_of)
open_by caps lists [] = refl
open_by caps lists (number ∷ list_of) =
    ap (λ (x : List ℕ). x ∷ map (row_at (map (open_bins caps) lists)) list_of) (open_at caps lists number)
    ∙ ap (λ (xs : List (List ℕ)). open_bins caps (row_at lists number) ∷ xs) (open_by caps lists list_of)

-- ---- prices that are enough

pub enough_none : (p : Problem) (vs : List ℕ) (price : ℕ) → IsEnough p vs price []
enough_none p vs price = All-nil (λ bin. bin_worth p bin ≤ price + get_or vs bin 0)

pub enough_more : (p : Problem) (vs : List ℕ) (price other : ℕ) (row : List ℕ) → price ≤ other → IsEnough p vs price row → IsEnough p vs other row
enough_more p vs price other row l h = All-weaker (λ bin. bin_worth p bin ≤ price + get_or vs bin 0) (λ bin. bin_worth p bin ≤ other + get_or vs bin 0) (λ bin m. omega (arith, l, m)) row h

pub enough_each : (p : Problem) (vs prices : List ℕ) (lists : List (List ℕ)) (list_of : List ℕ) → AreEnough p vs prices lists → p.rows ≡ map (row_at lists) list_of → IsEnoughForEach p vs prices list_of
unfolding row_of
enough_each p vs prices lists list_of h e item l =
    let count : item < length list_of = omega (arith, l, ap (λ (xs : List (List ℕ)). length xs) e, length-map list_of (row_at lists)) in
    subst (IsEnough p vs (get_or prices (get_or list_of item 0) 0)) (sym (ap (λ (xs : List (List ℕ)). get_or xs item []) e ∙ row_by lists list_of item count)) (h (get_or list_of item 0))

elsewhere : (p : Problem) (item bin : ℕ) → was_in p item bin ≡ false → weight_of p item bin ≡ bin_worth p bin
elsewhere p item bin e = ap (λ (b : Bool). weight_by p.version (items_of p) (drains p bin) b) e

pub row_priced : (p : Problem) (us vs : List ℕ) (item price : ℕ) → IsEnough p vs price (row_of p item) → price ≤ get_or us item 0 → ((bin : ℕ) → was_in p item bin ≡ true → weight_of p item bin ≤ get_or us item 0 + get_or vs bin 0) → row_fault p us vs item ≡ None
unfolding row_fault
row_priced p us vs item price enough below home =
    first_none (price_fault_at p us vs item) (length (row_of p item)) (λ place l. unless_true _ _ (le-leb _ _ (at_place place l (was_in p item (bin_at p item place)) refl)))
  where
    at_place : (place : ℕ) → place < length (row_of p item) → (b : Bool) → was_in p item (bin_at p item place) ≡ b → weight_of p item (bin_at p item place) ≤ get_or us item 0 + get_or vs (bin_at p item place) 0
    at_place place l true was = home (bin_at p item place) was
    at_place place l false other = omega (
      arith,
      below,
      elsewhere p item (bin_at p item place) other,
      All-get_or (λ bin. bin_worth p bin ≤ price + get_or vs bin 0) (row_of p item) place 0 l enough,
    )
