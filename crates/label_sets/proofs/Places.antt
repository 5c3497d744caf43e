-- What a binary search finds in a list in order, and what an edit at that place makes.
use Rattle.std.proofs.Common.{◌≡◌, ℕ, zero, suc, ◌<◌, ◌≤◌, true, false, List, [], ◌∷◌, length, get_or, set, Option, Some, None, unwrap_or, eqb, true≢false, Ordering, Less, Equal, Greater, is_lt, Result, Ok, Err, IfOk, IfErr, refl, sym, ap, ◌∙◌, arith, inl, inr, ◌⊎◌}
use Rattle.std.specs.Ordering.{ordering_index, ordering_reverse}
use Rattle.std.specs.List.{insert, remove}
use Rattle.std.specs.List.Sorted.{IsBinarySearchResult, IsSearchInRange, IsNonDecreasingBy}
use Rattle.std.specs.FinMap.{find, put, is_sorted}
use Rattle.std.specs.FinMap.Entries.{below_all}
use Rattle.std.proofs.lemmas.Bool.{cases_eq, and_parts}
use Rattle.std.proofs.lemmas.Cmp.{nat_list_cmp_total, tied_back}
use Rattle.label_sets.specs.Labels.{LabelList, byte_cmp, label_text, without, with_label, names_of, IsAscending}
use Rattle.label_sets.specs.inner.Places.{IsHere, IsGap}

-- the order of two names, the other way round
pub turned : (x y : List ℕ) (o : Ordering) → byte_cmp x y ≡ o → byte_cmp y x ≡ ordering_reverse o
turned x y o e = nat_list_cmp_total.antisymm y x ∙ ap ordering_reverse e

pub is_less : (o : Ordering) → is_lt o ≡ true → o ≡ Less
is_less Less e = refl
is_less Equal e = cc
is_less Greater e = cc

-- the first name is below each name behind it
below_at : (name : List ℕ) (labels : LabelList) (i : ℕ) (d : List ℕ × List ℕ) → below_all byte_cmp name labels ≡ true → i < length labels → byte_cmp name (get_or labels i d).0 ≡ Less
below_at name [] i d h lt = absurd (omega arith)
below_at name (l ∷ labels) zero d h lt = is_less _ (and_parts _ _ h).0
below_at name (l ∷ labels) (suc i) d h lt = below_at name labels i d (and_parts _ _ h).1 (omega arith)

-- names in order, by places
pub below_between : (labels : LabelList) (i j : ℕ) (d : List ℕ × List ℕ) → is_sorted byte_cmp labels ≡ true → i < j → j < length labels → byte_cmp (get_or labels i d).0 (get_or labels j d).0 ≡ Less
below_between [] i j d h lt within = absurd (omega arith)
below_between (l ∷ labels) zero zero d h lt within = absurd (omega arith)
below_between (l ∷ labels) zero (suc j) d h lt within = below_at l.0 labels j d (and_parts _ _ h).0 (omega arith)
below_between (l ∷ labels) (suc i) zero d h lt within = absurd (omega arith)
below_between (l ∷ labels) (suc i) (suc j) d h lt within = below_between labels i j d (and_parts _ _ h).1 (omega arith) (omega arith)

index-rises : (x y name : List ℕ) (o : Ordering) → byte_cmp x y ≡ Less → byte_cmp x name ≡ o → ordering_index o ≤ ordering_index (byte_cmp y name)
index-rises x y name Less below e = omega arith
index-rises x y name Equal below e =
    let above : byte_cmp y name ≡ Greater = turned name y Less (sym (nat_list_cmp_total.congr x name y e) ∙ below) in
    rw above (omega arith)
index-rises x y name Greater below e =
    let above : byte_cmp y name ≡ Greater = turned name y Less (nat_list_cmp_total.trans name x y (turned x name Greater e) below) in
    rw above (omega arith)

-- the comparisons with a name rise, as a binary search asks
rising : (labels : LabelList) (name : List ℕ) → is_sorted byte_cmp labels ≡ true → IsNonDecreasingBy (λ (l : List ℕ × List ℕ). ordering_index (byte_cmp l.0 name)) labels
rising labels name sorted i j d le within = go (cases_eq i j)
  where
    go : (i ≡ j) ⊎ (i ≡ j → ⊥) → ordering_index (byte_cmp (get_or labels i d).0 name) ≤ ordering_index (byte_cmp (get_or labels j d).0 name)
    go (inl e) = rw e (omega arith)
    go (inr ne) = index-rises _ _ name _ (below_between labels i j d sorted (omega arith) within) refl

-- what a binary search answers
pub searched : (labels : LabelList) (name : List ℕ) (r : Result ℕ ℕ) → is_sorted byte_cmp labels ≡ true → IsSearchInRange r (length labels) → IsBinarySearchResult (λ (l : List ℕ × List ℕ). byte_cmp l.0 name) labels r → record { here : IfOk r (IsHere labels name); gap : IfErr r (IsGap labels name) }
searched labels name (Ok i) sorted within tied = record { here = record { within = within; tied = tied }; gap = tt }
searched labels name (Err i) sorted within parted =
    let parts = parted (rising labels name sorted) in
    record { here = tt; gap = record { within = within; below = λ k d lt. parts.0 k d (omega arith) lt; above = λ k d le lt. parts.1 k d le lt } }

-- ---- an edit at a place

-- a name below all others is in none of them
without-below : (name : List ℕ) (labels : LabelList) → below_all byte_cmp name labels ≡ true → without labels name ≡ labels
without-below name [] h = refl
without-below name (l ∷ labels) h =
    let parts = and_parts _ _ h in
    let lower : byte_cmp name l.0 ≡ Less = is_less _ parts.0 in
    rw lower (ap (λ (ls : LabelList). l ∷ ls) (without-below name labels parts.1))

below_tied : (x y : List ℕ) (labels : LabelList) → byte_cmp x y ≡ Equal → below_all byte_cmp x labels ≡ true → below_all byte_cmp y labels ≡ true
below_tied x y [] e h = refl
below_tied x y (l ∷ labels) e h =
    let parts = and_parts _ _ h in
    let lower : byte_cmp y l.0 ≡ Less = sym (nat_list_cmp_total.congr x y l.0 e) ∙ is_less _ parts.0 in
    rw lower (below_tied x y labels e parts.1)

alike : (x y name : List ℕ) → byte_cmp y name ≡ Equal → byte_cmp x y ≡ byte_cmp x name
alike x y name e = nat_list_cmp_total.antisymm x y ∙ ap ordering_reverse (nat_list_cmp_total.congr y name x e) ∙ sym (nat_list_cmp_total.antisymm x name)

-- the first name is below a name that stands behind it
before_here : (l : List ℕ × List ℕ) (labels : LabelList) (name : List ℕ) (i : ℕ) (d : List ℕ × List ℕ) → below_all byte_cmp l.0 labels ≡ true → i < length labels → byte_cmp (get_or labels i d).0 name ≡ Equal → byte_cmp name l.0 ≡ Greater
before_here l labels name i d h within tied = turned l.0 name Less (sym (alike l.0 (get_or labels i d).0 name tied) ∙ below_at l.0 labels i d h within)

module _ (name : List ℕ) where
  find-here : (labels : LabelList) (i : ℕ) (d : List ℕ × List ℕ) → is_sorted byte_cmp labels ≡ true → i < length labels → byte_cmp (get_or labels i d).0 name ≡ Equal → find byte_cmp name labels ≡ Some (get_or labels i d).1
  find-here [] i d sorted within tied = absurd (omega arith)
  find-here (l ∷ labels) zero d sorted within tied =
      let same : byte_cmp name l.0 ≡ Equal = tied_back nat_list_cmp_total l.0 name tied in
      rw same
  find-here (l ∷ labels) (suc i) d sorted within tied =
      let parts = and_parts _ _ sorted in
      let higher : byte_cmp name l.0 ≡ Greater = before_here l labels name i d parts.0 (omega arith) tied in
      rw higher (find-here labels i d parts.1 (omega arith) tied)

  put-here : (labels : LabelList) (i : ℕ) (d : List ℕ × List ℕ) (text : List ℕ) → is_sorted byte_cmp labels ≡ true → i < length labels → byte_cmp (get_or labels i d).0 name ≡ Equal → set labels i ((get_or labels i d).0, text) ≡ put byte_cmp name text labels
  put-here [] i d text sorted within tied = absurd (omega arith)
  put-here (l ∷ labels) zero d text sorted within tied =
      let same : byte_cmp name l.0 ≡ Equal = tied_back nat_list_cmp_total l.0 name tied in
      rw same
  put-here (l ∷ labels) (suc i) d text sorted within tied =
      let parts = and_parts _ _ sorted in
      let higher : byte_cmp name l.0 ≡ Greater = before_here l labels name i d parts.0 (omega arith) tied in
      rw higher (ap (λ (ls : LabelList). l ∷ ls) (put-here labels i d text parts.1 (omega arith) tied))

  without-here : (labels : LabelList) (i : ℕ) (d : List ℕ × List ℕ) → is_sorted byte_cmp labels ≡ true → i < length labels → byte_cmp (get_or labels i d).0 name ≡ Equal → remove labels i ≡ without labels name
  without-here [] i d sorted within tied = absurd (omega arith)
  without-here (l ∷ labels) zero d sorted within tied =
      let parts = and_parts _ _ sorted in
      let same : byte_cmp name l.0 ≡ Equal = tied_back nat_list_cmp_total l.0 name tied in
      rw same (sym (without-below name labels (below_tied l.0 name labels tied parts.0)))
  without-here (l ∷ labels) (suc i) d sorted within tied =
      let parts = and_parts _ _ sorted in
      let higher : byte_cmp name l.0 ≡ Greater = before_here l labels name i d parts.0 (omega arith) tied in
      rw higher (ap (λ (ls : LabelList). l ∷ ls) (without-here labels i d parts.1 (omega arith) tied))

  after_gap : (l : List ℕ × List ℕ) (labels : LabelList) (i : ℕ) → IsGap (l ∷ labels) name (suc i) → IsGap labels name i
  after_gap l labels i gap = record {
    within = omega (arith, gap.within);
    below = λ k d lt. gap.below (suc k) d (omega arith);
    above = λ k d le lt. gap.above (suc k) d (omega arith) (omega arith);
  }

  after_first : (l : List ℕ × List ℕ) (labels : LabelList) → IsGap (l ∷ labels) name 0 → IsGap labels name 0
  after_first l labels gap = record {
    within = omega arith;
    below = λ k d lt. absurd (omega arith);
    above = λ k d le lt. gap.above (suc k) d (omega arith) (omega arith);
  }

  find-gap : (labels : LabelList) (i : ℕ) → IsGap labels name i → find byte_cmp name labels ≡ None
  find-gap [] i gap = refl
  find-gap (l ∷ labels) zero gap =
      let lower : byte_cmp name l.0 ≡ Less = turned l.0 name Greater (gap.above 0 l (omega arith) (omega arith)) in
      rw lower (find-gap labels 0 (after_first l labels gap))
  find-gap (l ∷ labels) (suc i) gap =
      let higher : byte_cmp name l.0 ≡ Greater = turned l.0 name Less (gap.below 0 l (omega arith)) in
      rw higher (find-gap labels i (after_gap l labels i gap))

  without-gap : (labels : LabelList) (i : ℕ) → IsGap labels name i → labels ≡ without labels name
  without-gap [] i gap = refl
  without-gap (l ∷ labels) zero gap =
      let lower : byte_cmp name l.0 ≡ Less = turned l.0 name Greater (gap.above 0 l (omega arith) (omega arith)) in
      rw lower (ap (λ (ls : LabelList). l ∷ ls) (without-gap labels 0 (after_first l labels gap)))
  without-gap (l ∷ labels) (suc i) gap =
      let higher : byte_cmp name l.0 ≡ Greater = turned l.0 name Less (gap.below 0 l (omega arith)) in
      rw higher (ap (λ (ls : LabelList). l ∷ ls) (without-gap labels i (after_gap l labels i gap)))

  put-gap : (labels : LabelList) (i : ℕ) (text : List ℕ) → IsGap labels name i → insert labels i (name, text) ≡ put byte_cmp name text labels
  put-gap [] zero text gap = refl
  put-gap [] (suc i) text gap = absurd (omega (arith, gap.within))
  put-gap (l ∷ labels) zero text gap =
      let lower : byte_cmp name l.0 ≡ Less = turned l.0 name Greater (gap.above 0 l (omega arith) (omega arith)) in
      rw lower
  put-gap (l ∷ labels) (suc i) text gap =
      let higher : byte_cmp name l.0 ≡ Greater = turned l.0 name Less (gap.below 0 l (omega arith)) in
      rw higher (ap (λ (ls : LabelList). l ∷ ls) (put-gap labels i text (after_gap l labels i gap)))

pub find_from_here : (labels : LabelList) (name : List ℕ) (i : ℕ) (d : List ℕ × List ℕ) → is_sorted byte_cmp labels ≡ true → IsHere labels name i → find byte_cmp name labels ≡ Some (get_or labels i d).1
find_from_here labels name i d sorted here = find-here name labels i d sorted here.within (here.tied d)

pub put_from_here : (labels : LabelList) (name : List ℕ) (i : ℕ) (d : List ℕ × List ℕ) (text : List ℕ) → is_sorted byte_cmp labels ≡ true → IsHere labels name i → set labels i ((get_or labels i d).0, text) ≡ put byte_cmp name text labels
put_from_here labels name i d text sorted here = put-here name labels i d text sorted here.within (here.tied d)

pub without_from_here : (labels : LabelList) (name : List ℕ) (i : ℕ) → is_sorted byte_cmp labels ≡ true → IsHere labels name i → remove labels i ≡ without labels name
without_from_here labels name i sorted here = without-here name labels i ([], []) sorted here.within (here.tied ([], []))

pub find_from_gap : (labels : LabelList) (name : List ℕ) (i : ℕ) → IsGap labels name i → find byte_cmp name labels ≡ None
find_from_gap labels name i gap = find-gap name labels i gap

pub without_from_gap : (labels : LabelList) (name : List ℕ) (i : ℕ) → IsGap labels name i → labels ≡ without labels name
without_from_gap labels name i gap = without-gap name labels i gap

pub put_from_gap : (labels : LabelList) (name : List ℕ) (i : ℕ) (text : List ℕ) → IsGap labels name i → insert labels i (name, text) ≡ put byte_cmp name text labels
put_from_gap labels name i text gap = put-gap name labels i text gap

with_label-some : (labels : LabelList) (name text : List ℕ) → eqb (length text) 0 ≡ false → with_label labels name text ≡ put byte_cmp name text labels
with_label-some labels name [] some = absurd (true≢false some)
with_label-some labels name (b ∷ bs) some = refl

-- a text written over the name's entry
pub with_label_from_here : (labels : LabelList) (name : List ℕ) (i : ℕ) (entry : List ℕ × List ℕ) (text : List ℕ) → is_sorted byte_cmp labels ≡ true → IsHere labels name i → entry ≡ get_or labels i entry → eqb (length text) 0 ≡ false → set labels i (entry.0, text) ≡ with_label labels name text
with_label_from_here labels name i entry text sorted here is some =
    ap (λ (e : List ℕ × List ℕ). set labels i (e.0, text)) is ∙ put_from_here labels name i entry text sorted here ∙ sym (with_label-some labels name text some)

-- an entry put into the gap
pub with_label_from_gap : (labels : LabelList) (name : List ℕ) (i : ℕ) (text : List ℕ) → IsGap labels name i → eqb (length text) 0 ≡ false → insert labels i (name, text) ≡ with_label labels name text
with_label_from_gap labels name i text gap some = put_from_gap labels name i text gap ∙ sym (with_label-some labels name text some)

-- what is read at the name's entry
pub label_text_from_here : (labels : LabelList) (name : List ℕ) (i : ℕ) (d : List ℕ × List ℕ) → is_sorted byte_cmp labels ≡ true → IsHere labels name i → (get_or labels i d).1 ≡ label_text labels name
label_text_from_here labels name i d sorted here = sym (ap (λ (o : Option (List ℕ)). unwrap_or o []) (find_from_here labels name i d sorted here))

pub label_text_from_gap : (labels : LabelList) (name : List ℕ) (i : ℕ) → IsGap labels name i → [] ≡ label_text labels name
label_text_from_gap labels name i gap = sym (ap (λ (o : Option (List ℕ)). unwrap_or o []) (find_from_gap labels name i gap))

get_or-names_of : (labels : LabelList) (i : ℕ) (d : List ℕ) → get_or (names_of labels) i d ≡ (get_or labels i (d, [])).0
get_or-names_of [] i d = refl
get_or-names_of (l ∷ labels) zero d = refl
get_or-names_of (l ∷ labels) (suc i) d = get_or-names_of labels i d

length-names_of : (labels : LabelList) → length (names_of labels) ≡ length labels
length-names_of [] = refl
length-names_of (l ∷ labels) = ap suc (length-names_of labels)

pub names_of-ascends : (labels : LabelList) → is_sorted byte_cmp labels ≡ true → IsAscending (names_of labels)
names_of-ascends labels sorted i j d lt within =
    let inside : j < length labels = omega (arith, length-names_of labels, within) in
    rw (get_or-names_of labels i d, get_or-names_of labels j d) (below_between labels i j (d, []) sorted lt inside)
