-- What a binary search finds among limits in order of their names, and what an edit at that place makes.
use Rattle.std.proofs.Common.{◌≡◌, ℕ, zero, suc, ◌<◌, ◌≤◌, T, Bool, true, false, List, [], ◌∷◌, ◌++◌, length, get_or, set, fold, cond, Option, Some, None, unwrap_or, Less, Equal, Greater, Ordering, Result, Ok, Err, IfOk, IfErr, refl, sym, ap, subst, ◌∙◌, append_assoc, append-nil, arith, inl, inr, ◌⊎◌}
use Rattle.std.specs.Ordering.{ordering_index}
use Rattle.std.specs.List.{insert}
use Rattle.std.specs.List.Sorted.{IsBinarySearchResult, IsSearchInRange, IsNonDecreasingBy}
use Rattle.std.specs.FinMap.{find, put, is_sorted}
use Rattle.std.specs.FinMap.Entries.{below_all, is_sorted-put, find-put}
use Rattle.std.specs.Str.{bytes_eq}
use Rattle.std.proofs.lemmas.Bool.{cases_eq, and_parts}
use Rattle.std.proofs.lemmas.Cmp.{nat_list_cmp_total, tied_back}
use Rattle.std.proofs.lemmas.Map.Text.{is_eq-slice_cmp}
use Rattle.label_sets.proofs.Places.{turned, is_less}
use Rattle.reach_rules.specs.Name.{byte_cmp}
use Rattle.reach_rules.specs.OwnLimits.{LimitList, own_limit, with_limit, limits_of, last_limit}
use Rattle.reach_rules.specs.inner.Places.{IsHere, IsGap}

-- ---- names in order, by places

-- the first name is below each name behind it
below_at : (name : List ℕ) (limits : LimitList) (i : ℕ) (d : List ℕ × ℕ) → below_all byte_cmp name limits ≡ true → i < length limits → byte_cmp name (get_or limits i d).0 ≡ Less
below_at name [] i d h lt = absurd (omega arith)
below_at name (l ∷ limits) zero d h lt = is_less _ (and_parts _ _ h).0
below_at name (l ∷ limits) (suc i) d h lt = below_at name limits i d (and_parts _ _ h).1 (omega arith)

pub below_between : (limits : LimitList) (i j : ℕ) (d : List ℕ × ℕ) → is_sorted byte_cmp limits ≡ true → i < j → j < length limits → byte_cmp (get_or limits i d).0 (get_or limits j d).0 ≡ Less
below_between [] i j d h lt within = absurd (omega arith)
below_between (l ∷ limits) zero zero d h lt within = absurd (omega arith)
below_between (l ∷ limits) zero (suc j) d h lt within = below_at l.0 limits j d (and_parts _ _ h).0 (omega arith)
below_between (l ∷ limits) (suc i) zero d h lt within = absurd (omega arith)
below_between (l ∷ limits) (suc i) (suc j) d h lt within = below_between limits i j d (and_parts _ _ h).1 (omega arith) (omega arith)

index-rises : (x y name : List ℕ) (o : Ordering) → byte_cmp x y ≡ Less → byte_cmp x name ≡ o → ordering_index o ≤ ordering_index (byte_cmp y name)
index-rises x y name Less below e = omega arith
index-rises x y name Equal below e =
    let above : byte_cmp y name ≡ Greater = turned name y Less (sym (nat_list_cmp_total.congr x name y e) ∙ below) in
    rw above (omega arith)
index-rises x y name Greater below e =
    let above : byte_cmp y name ≡ Greater = turned name y Less (nat_list_cmp_total.trans name x y (turned x name Greater e) below) in
    rw above (omega arith)

-- the comparisons with a name rise, as a binary search asks
rising : (limits : LimitList) (name : List ℕ) → is_sorted byte_cmp limits ≡ true → IsNonDecreasingBy (λ (l : List ℕ × ℕ). ordering_index (byte_cmp l.0 name)) limits
rising limits name sorted i j d le within = go (cases_eq i j)
  where
    go : (i ≡ j) ⊎ (i ≡ j → ⊥) → ordering_index (byte_cmp (get_or limits i d).0 name) ≤ ordering_index (byte_cmp (get_or limits j d).0 name)
    go (inl e) = rw e (omega arith)
    go (inr ne) = index-rises _ _ name _ (below_between limits i j d sorted (omega arith) within) refl

-- what a binary search answers
pub searched : (limits : LimitList) (name : List ℕ) (r : Result ℕ ℕ) → is_sorted byte_cmp limits ≡ true → IsSearchInRange r (length limits) → IsBinarySearchResult (λ (l : List ℕ × ℕ). byte_cmp l.0 name) limits r → record { here : IfOk r (IsHere limits name); gap : IfErr r (IsGap limits name) }
searched limits name (Ok i) sorted within tied = record { here = record { within = within; tied = tied }; gap = tt }
searched limits name (Err i) sorted within parted =
    let parts = parted (rising limits name sorted) in
    record { here = tt; gap = record { within = within; below = λ k d lt. parts.0 k d (omega arith) lt; above = λ k d le lt. parts.1 k d le lt } }

-- ---- an edit at a place

-- the first name is below a name that stands behind it
before_here : (l : List ℕ × ℕ) (limits : LimitList) (name : List ℕ) (i : ℕ) (d : List ℕ × ℕ) → below_all byte_cmp l.0 limits ≡ true → i < length limits → byte_cmp (get_or limits i d).0 name ≡ Equal → byte_cmp name l.0 ≡ Greater
before_here l limits name i d h within tied =
    turned l.0 name Less (turned name l.0 Greater (sym (nat_list_cmp_total.congr (get_or limits i d).0 name l.0 tied) ∙ turned l.0 (get_or limits i d).0 Less (below_at l.0 limits i d h within)))

module _ (name : List ℕ) where
  find-here : (limits : LimitList) (i : ℕ) (d : List ℕ × ℕ) → is_sorted byte_cmp limits ≡ true → i < length limits → byte_cmp (get_or limits i d).0 name ≡ Equal → find byte_cmp name limits ≡ Some (get_or limits i d).1
  find-here [] i d sorted within tied = absurd (omega arith)
  find-here (l ∷ limits) zero d sorted within tied =
      let same : byte_cmp name l.0 ≡ Equal = tied_back nat_list_cmp_total l.0 name tied in
      rw same
  find-here (l ∷ limits) (suc i) d sorted within tied =
      let parts = and_parts _ _ sorted in
      let higher : byte_cmp name l.0 ≡ Greater = before_here l limits name i d parts.0 (omega arith) tied in
      rw higher (find-here limits i d parts.1 (omega arith) tied)

  put-here : (limits : LimitList) (i : ℕ) (d : List ℕ × ℕ) (limit : ℕ) → is_sorted byte_cmp limits ≡ true → i < length limits → byte_cmp (get_or limits i d).0 name ≡ Equal → set limits i ((get_or limits i d).0, limit) ≡ put byte_cmp name limit limits
  put-here [] i d limit sorted within tied = absurd (omega arith)
  put-here (l ∷ limits) zero d limit sorted within tied =
      let same : byte_cmp name l.0 ≡ Equal = tied_back nat_list_cmp_total l.0 name tied in
      rw same
  put-here (l ∷ limits) (suc i) d limit sorted within tied =
      let parts = and_parts _ _ sorted in
      let higher : byte_cmp name l.0 ≡ Greater = before_here l limits name i d parts.0 (omega arith) tied in
      rw higher (ap (λ (ls : LimitList). l ∷ ls) (put-here limits i d limit parts.1 (omega arith) tied))

  after_gap : (l : List ℕ × ℕ) (limits : LimitList) (i : ℕ) → IsGap (l ∷ limits) name (suc i) → IsGap limits name i
  after_gap l limits i gap = record {
    within = omega (arith, gap.within);
    below = λ k d lt. gap.below (suc k) d (omega arith);
    above = λ k d le lt. gap.above (suc k) d (omega arith) (omega arith);
  }

  after_first : (l : List ℕ × ℕ) (limits : LimitList) → IsGap (l ∷ limits) name 0 → IsGap limits name 0
  after_first l limits gap = record {
    within = omega arith;
    below = λ k d lt. absurd (omega arith);
    above = λ k d le lt. gap.above (suc k) d (omega arith) (omega arith);
  }

  find-gap : (limits : LimitList) (i : ℕ) → IsGap limits name i → find byte_cmp name limits ≡ None
  find-gap [] i gap = refl
  find-gap (l ∷ limits) zero gap =
      let lower : byte_cmp name l.0 ≡ Less = turned l.0 name Greater (gap.above 0 l (omega arith) (omega arith)) in
      rw lower (find-gap limits 0 (after_first l limits gap))
  find-gap (l ∷ limits) (suc i) gap =
      let higher : byte_cmp name l.0 ≡ Greater = turned l.0 name Less (gap.below 0 l (omega arith)) in
      rw higher (find-gap limits i (after_gap l limits i gap))

  put-gap : (limits : LimitList) (i limit : ℕ) → IsGap limits name i → insert limits i (name, limit) ≡ put byte_cmp name limit limits
  put-gap [] zero limit gap = refl
  put-gap [] (suc i) limit gap = absurd (omega (arith, gap.within))
  put-gap (l ∷ limits) zero limit gap =
      let lower : byte_cmp name l.0 ≡ Less = turned l.0 name Greater (gap.above 0 l (omega arith) (omega arith)) in
      rw lower
  put-gap (l ∷ limits) (suc i) limit gap =
      let higher : byte_cmp name l.0 ≡ Greater = turned l.0 name Less (gap.below 0 l (omega arith)) in
      rw higher (ap (λ (ls : LimitList). l ∷ ls) (put-gap limits i limit (after_gap l limits i gap)))

-- what is read at the name's entry
pub own_limit_from_here : (limits : LimitList) (job : List ℕ) (i : ℕ) (d : List ℕ × ℕ) → is_sorted byte_cmp limits ≡ true → IsHere limits job i → (get_or limits i d).1 ≡ own_limit limits job
own_limit_from_here limits job i d sorted here = sym (ap (λ (o : Option ℕ). unwrap_or o 0) (find-here job limits i d sorted here.within (here.tied d)))

pub own_limit_from_gap : (limits : LimitList) (job : List ℕ) (i : ℕ) → IsGap limits job i → 0 ≡ own_limit limits job
own_limit_from_gap limits job i gap = sym (ap (λ (o : Option ℕ). unwrap_or o 0) (find-gap job limits i gap))

-- a number written over the name's own
pub with_limit_from_here : (limits : LimitList) (job : List ℕ) (i : ℕ) (entry : List ℕ × ℕ) (limit : ℕ) → is_sorted byte_cmp limits ≡ true → IsHere limits job i → entry ≡ get_or limits i entry → set limits i (entry.0, limit) ≡ with_limit limits job limit
with_limit_from_here limits job i entry limit sorted here is = ap (λ (e : List ℕ × ℕ). set limits i (e.0, limit)) is ∙ put-here job limits i entry limit sorted here.within (here.tied entry)

-- an entry put into the gap
pub with_limit_from_gap : (limits : LimitList) (job : List ℕ) (i limit : ℕ) → IsGap limits job i → insert limits i (job, limit) ≡ with_limit limits job limit
with_limit_from_gap limits job i limit gap = put-gap job limits i limit gap

-- ---- limits stay in order

from_T : (b : Bool) → T b → b ≡ true
from_T true h = refl
from_T false h = absurd h

pub with_limit-sorted : (limits : LimitList) (job : List ℕ) (limit : ℕ) → is_sorted byte_cmp limits ≡ true → is_sorted byte_cmp (with_limit limits job limit) ≡ true
with_limit-sorted limits job limit sorted = from_T _ (is_sorted-put byte_cmp nat_list_cmp_total job limit limits (subst T (sym sorted) tt))

-- ---- the entries of limits, set one after the other, are the limits

below_here : (name : List ℕ) (front rest : LimitList) (l : List ℕ × ℕ) → below_all byte_cmp name (front ++ l ∷ rest) ≡ true → byte_cmp name l.0 ≡ Less
below_here name [] rest l h = is_less _ (and_parts _ _ h).0
below_here name (m ∷ front) rest l h = below_here name front rest l (and_parts _ _ h).1

-- a name above all others is put last
put_behind : (front rest : LimitList) (l : List ℕ × ℕ) → is_sorted byte_cmp (front ++ l ∷ rest) ≡ true → with_limit front l.0 l.1 ≡ front ++ l ∷ []
put_behind [] rest l sorted = refl
put_behind (m ∷ front) rest l sorted =
    let parts = and_parts _ _ sorted in
    let above : byte_cmp l.0 m.0 ≡ Greater = turned m.0 l.0 Less (below_here m.0 front rest l parts.0) in
    rw above (ap (λ (ls : LimitList). m ∷ ls) (put_behind front rest l parts.1))

abbrev set_entry : LimitList → List ℕ × ℕ → LimitList
set_entry limits entry = with_limit limits entry.0 entry.1

abbrev pub set_all : LimitList → LimitList → LimitList
set_all = fold set_entry

set_behind : (front rest : LimitList) → is_sorted byte_cmp (front ++ rest) ≡ true → set_all front rest ≡ front ++ rest
set_behind front [] sorted = sym (append-nil front)
set_behind front (l ∷ rest) sorted =
    let split : (front ++ l ∷ []) ++ rest ≡ front ++ l ∷ rest = append_assoc front (l ∷ []) rest in
    ap (λ (ls : LimitList). set_all ls rest) (put_behind front rest l sorted)
    ∙ set_behind (front ++ l ∷ []) rest (ap (is_sorted byte_cmp) split ∙ sorted) ∙ split

pub limits_of-sorted : (limits : LimitList) → is_sorted byte_cmp limits ≡ true → limits_of limits ≡ limits
limits_of-sorted limits sorted = set_behind [] limits sorted

-- ---- what a job has after others were set

pub own_limit-with_limit : (limits : LimitList) (job : List ℕ) (limit : ℕ) (name : List ℕ) → own_limit (with_limit limits job limit) name ≡ cond (bytes_eq name job) limit (own_limit limits name)
own_limit-with_limit limits job limit name =
    ap (λ (o : Option ℕ). unwrap_or o 0) (find-put byte_cmp nat_list_cmp_total name job limit limits ∙ ap (λ b. cond b (Some limit) (find byte_cmp name limits)) (is_eq-slice_cmp name job))
    ∙ either (bytes_eq name job)
  where
    either : (b : Bool) → unwrap_or (cond b (Some limit) (find byte_cmp name limits)) 0 ≡ cond b limit (own_limit limits name)
    either true = refl
    either false = refl

abbrev later : List ℕ → ℕ → List ℕ × ℕ → ℕ
later job limit entry = cond (bytes_eq job entry.0) entry.1 limit

last_from : (entries limits : LimitList) (job : List ℕ) → own_limit (set_all limits entries) job ≡ fold (later job) (own_limit limits job) entries
last_from [] limits job = refl
last_from (e ∷ entries) limits job = last_from entries (set_entry limits e) job ∙ ap (λ n. fold (later job) n entries) (own_limit-with_limit limits e.0 e.1 job)

-- the last entry of a job holds
pub last_holds : (entries : LimitList) (job : List ℕ) → own_limit (limits_of entries) job ≡ last_limit entries job
last_holds entries job = last_from entries [] job
