-- What is written where items share their lists reads back.
use Rattle.std.proofs.Common.{◌≡◌, ◌+◌, ◌<◌, ◌≤◌, ◌++◌, ℕ, zero, suc, Bool, true, false, List, [], ◌∷◌, Option, Some, None, All, cond, length, get_or, map, take, sum_by, refl, sym, ap, subst, ◌∙◌, arith}
use Rattle.std.specs.Prelude.{nat_eq, nat_lt, min}
use Rattle.std.specs.Cmp.Lexicographic.{pointwise}
use Rattle.std.specs.Bool.{Decides}
use Rattle.std.proofs.lemmas.Bool.{and_from, lt-ltb, le-leb, eqb-true, eq-eqb}
use Rattle.std.proofs.lemmas.List.{get_or-map, get_or_append_left as get_or-append, get_or_push, length-append, length-map, map-append, take_all, take_more}
use Rattle.std.proofs.lemmas.List.Elements.{All-append, All-cons, All-head, All-nil, All-tail, All-weaker}
use Rattle.std.proofs.lemmas.List.Sums.{sum_by-cons, sum_by_more_le}
use Rattle.std.proofs.lemmas.Slice.Eq.{slice_eq-Decides}
use Rattle.lists.proofs.RisingLemmas.{all_from}
use Rattle.price_certificate.specs.Faults.{first_below, or_else}
use Rattle.price_certificate.specs.Problem.{Problem, IsProblem, items_of, row_of}
use Rattle.price_certificate.specs.Rows.{row_at}
use Rattle.price_certificate.specs.Reach.{Sharing, may_share, pairs_of, place_at, place_of, shared_rows, sharing_below, sharing_of, with_place}

-- ---- the first that there is

found_below : {A : Type 0} (f : ℕ → Option A) (n : ℕ) (x : A) → first_below f n ≡ Some x → (i : ℕ) × (i < n) × (f i ≡ Some x)
found_below f zero x e = cc
found_below {A = A} f (suc n) x e = by_first (first_below f n) refl (found_below f n x) e
  where
    by_first : (o : Option A) → first_below f n ≡ o → (first_below f n ≡ Some x → (i : ℕ) × (i < n) × (f i ≡ Some x)) → or_else o (f n) ≡ Some x → (i : ℕ) × (i < suc n) × (f i ≡ Some x)
    by_first None none before h = (n, omega arith, h)
    by_first (Some y) some before h =
        let found = before (some ∙ h) in
        (found.0, omega (arith, found.1), found.2)

-- ---- the number of a list that is an item's

chosen : (b : Bool) (number x : ℕ) → cond b (Some number) None ≡ Some x → (b ≡ true) × (number ≡ x)
chosen true number x e = (refl, cc)
chosen false number x e = cc

pub same_number : (a b : ℕ) → Decides (nat_eq a b) (a ≡ b)
same_number a b = (λ t. eqb-true a b t, λ e. eq-eqb a b e)

pub place_is : (p : Problem) (firsts : List ℕ) (item number : ℕ) → place_of p firsts item ≡ Some number → (number < length firsts) × (row_of p (get_or firsts number 0) ≡ row_of p item)
place_is p firsts item number e =
    let found = found_below (place_at p firsts item) (min (length firsts) 512) number e in
    let here = chosen (pointwise nat_eq (row_of p (get_or firsts found.0 0)) (row_of p item)) found.0 number found.2 in
    let same = (slice_eq-Decides same_number (row_of p (get_or firsts found.0 0)) (row_of p item) true (sym here.0)).0 refl in
    let below : found.0 < length firsts = omega (arith, found.1) in
    (subst (λ (k : ℕ). k < length firsts) here.1 below, subst (λ (k : ℕ). row_of p (get_or firsts k 0) ≡ row_of p item) here.1 same)

pub is_place : (p : Problem) (firsts : List ℕ) (item number : ℕ) → pointwise nat_eq (row_of p (get_or firsts number 0)) (row_of p item) ≡ true → place_at p firsts item number ≡ Some number
is_place p firsts item number same = ap (λ (b : Bool). cond b (Some number) None) same

-- ---- the lists of the items so far

record IsShared (p : Problem) (n : ℕ) (s : Sharing) : Type 0 where
  each : length s.list_of ≡ n
  below : All (λ (number : ℕ). number < length s.firsts) s.list_of
  rows : map (row_at (map (row_of p) s.firsts)) s.list_of ≡ take n p.rows

row_written : (p : Problem) (firsts : List ℕ) (number : ℕ) → number < length firsts → row_at (map (row_of p) firsts) number ≡ row_of p (get_or firsts number 0)
row_written p firsts number l = get_or-map (row_of p) firsts number 0 [] l

row_is : (p : Problem) (n : ℕ) → row_of p n ≡ get_or p.rows n []
unfolding row_of
row_is p n = refl

take_suc : (rows : List (List ℕ)) (n : ℕ) → n < length rows → take (suc n) rows ≡ take n rows ++ get_or rows n [] ∷ []
take_suc rows n l =
    let next : n + 1 ≡ suc n = omega arith in
    subst (λ (k : ℕ). take k rows ≡ take n rows ++ get_or rows n [] ∷ []) next (take_more rows n [] l)

-- one list more stands behind the others
rows_stay : (rows : List (List ℕ)) (row : List ℕ) (list_of : List ℕ) → All (λ (number : ℕ). number < length rows) list_of → map (row_at (rows ++ row ∷ [])) list_of ≡ map (row_at rows) list_of
rows_stay rows row [] below = refl
rows_stay rows row (number ∷ list_of) below =
    let P = λ (k : ℕ). k < length rows in
    let here : row_at (rows ++ row ∷ []) number ≡ row_at rows number = get_or-append rows (row ∷ []) [] number (All-head P number list_of below) in
    ap (λ (x : List ℕ). x ∷ map (row_at (rows ++ row ∷ [])) list_of) here ∙ ap (λ (xs : List (List ℕ)). row_at rows number ∷ xs) (rows_stay rows row list_of (All-tail P number list_of below))

shared_more : (p : Problem) (n number : ℕ) (s : Sharing) → IsShared p n s → n < length p.rows → place_of p s.firsts n ≡ Some number → IsShared p (suc n) (with_place (Some number) n s)
shared_more p n number s h l e =
    let place = place_is p s.firsts n number e in
    let P = λ (k : ℕ). k < length s.firsts in
    let R = map (row_of p) s.firsts in
    let row : row_at R number ≡ get_or p.rows n [] = row_written p s.firsts number place.0 ∙ place.1 ∙ row_is p n in
    record {
      each = omega (arith, length-append s.list_of (number ∷ []), h.each);
      below = All-append P s.list_of (number ∷ []) h.below (All-cons P number [] place.0 (All-nil P));
      rows =
          map-append (row_at R) s.list_of (number ∷ []) ∙ ap (λ (xs : List (List ℕ)). xs ++ row_at R number ∷ []) h.rows
          ∙ ap (λ (x : List ℕ). take n p.rows ++ x ∷ []) row ∙ sym (take_suc p.rows n l);
    }

own_more : (p : Problem) (n : ℕ) (s : Sharing) → IsShared p n s → n < length p.rows → IsShared p (suc n) (with_place None n s)
own_more p n s h l =
    let R = map (row_of p) s.firsts in
    let wide = length-append s.firsts (n ∷ []) in
    let all : map (row_of p) (s.firsts ++ n ∷ []) ≡ R ++ row_of p n ∷ [] = map-append (row_of p) s.firsts (n ∷ []) in
    let few = All-weaker (λ (k : ℕ). k < length s.firsts) (λ (k : ℕ). k < length R) (λ k m. omega (arith, length-map s.firsts (row_of p))) s.list_of h.below in
    let last : row_at (R ++ row_of p n ∷ []) (length s.firsts) ≡ row_of p n = get_or_push R (row_of p n) [] (length s.firsts) (length-map s.firsts (row_of p)) in
    record {
      each = omega (arith, length-append s.list_of (length s.firsts ∷ []), h.each);
      below =
          All-append (λ (k : ℕ). k < length (s.firsts ++ n ∷ [])) s.list_of (length s.firsts ∷ [])
          (All-weaker (λ (k : ℕ). k < length s.firsts) (λ (k : ℕ). k < length (s.firsts ++ n ∷ [])) (λ k m. omega (arith, wide)) s.list_of h.below)
          (All-cons (λ (k : ℕ). k < length (s.firsts ++ n ∷ [])) (length s.firsts) [] (omega (arith, wide)) (All-nil (λ (k : ℕ). k < length (s.firsts ++ n ∷ []))));
      rows =
          ap (λ (rows : List (List ℕ)). map (row_at rows) (s.list_of ++ length s.firsts ∷ [])) all
          ∙ map-append (row_at (R ++ row_of p n ∷ [])) s.list_of (length s.firsts ∷ [])
          ∙ ap (λ (xs : List (List ℕ)). xs ++ row_at (R ++ row_of p n ∷ []) (length s.firsts) ∷ []) (rows_stay R (row_of p n) s.list_of few ∙ h.rows)
          ∙ ap (λ (x : List ℕ). take n p.rows ++ x ∷ []) (last ∙ row_is p n) ∙ sym (take_suc p.rows n l);
    }

shared_below : (p : Problem) (n : ℕ) → n ≤ length p.rows → IsShared p n (sharing_below p n)
shared_below p zero l = record { each = refl; below = All-nil (λ (k : ℕ). k < 0); rows = refl }
shared_below p (suc n) l = by_place (place_of p (sharing_below p n).firsts n) refl (shared_below p n (omega (arith, l)))
  where
    by_place : (o : Option ℕ) → place_of p (sharing_below p n).firsts n ≡ o → IsShared p n (sharing_below p n) → IsShared p (suc n) (with_place o n (sharing_below p n))
    by_place (Some number) e before = shared_more p n number (sharing_below p n) before (omega (arith, l)) e
    by_place None e before = own_more p n (sharing_below p n) before (omega (arith, l))

-- ---- all items

sum_written : (f : ℕ → List ℕ) (xs : List ℕ) → sum_by (λ x. length (f x)) xs ≡ sum_by (λ (row : List ℕ). length row) (map f xs)
sum_written f [] = refl
sum_written f (x ∷ xs) = omega (arith, sum_by-cons (λ (y : ℕ). length (f y)) x xs, sum_by-cons (λ (row : List ℕ). length row) (f x) (map f xs), sum_written f xs)

allowed : (b : Bool) (rows : List (List ℕ)) → b ≡ true → cond b (Some rows) None ≡ Some rows
allowed true rows e = refl
allowed false rows e = cc

pub reads_back : (p : Problem) → IsProblem p → shared_rows (map (row_of p) (sharing_of p).firsts) (sharing_of p).list_of ≡ Some p.rows
reads_back p h =
    let s = sharing_of p in
    let R = map (row_of p) s.firsts in
    let is = shared_below p (items_of p) (omega arith) in
    let whole : map (row_at R) s.list_of ≡ p.rows = is.rows ∙ take_all (items_of p) p.rows (omega arith) in
    let few : pairs_of R s.list_of ≤ 4194304 = omega (arith, sum_written (row_at R) s.list_of, ap (sum_by (λ (row : List ℕ). length row)) whole, h.reach.pairs) in
    let numbers = all_from (λ (k : ℕ). nat_lt k (length R)) (λ (k : ℕ). k < length s.firsts) (λ k l. lt-ltb k (length R) (omega (arith, l, length-map s.firsts (row_of p)))) s.list_of is.below in
    let may : may_share R s.list_of ≡ true = and_from _ _ numbers (and_from _ _ (le-leb _ _ (omega (arith, is.each, h.reach.items))) (le-leb _ _ few)) in
    allowed (may_share R s.list_of) (map (row_at R) s.list_of) may ∙ ap (λ (rows : List (List ℕ)). Some rows) whole

-- ---- too many pairs

pub too_many : (rows : List (List ℕ)) (list_of : List ℕ) (i left : ℕ) → i < length list_of → left + pairs_of rows (take i list_of) ≡ 4194304 → left < length (row_at rows (get_or list_of i 0)) → pairs_of rows list_of ≤ 4194304 → ⊥
too_many rows list_of i left l so_far more few = absurd (omega (arith, so_far, more, few, sum_by_more_le (λ number. length (row_at rows number)) list_of i 0 l))
