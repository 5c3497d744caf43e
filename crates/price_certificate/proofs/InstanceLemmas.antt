-- The instance that a value spells by its definition is the one of the function.
use Rattle.std.proofs.Common.{◌≡◌, ℕ, zero, suc, cond, eqb, ◌+◌, ◌<◌, ◌≤◌, not, ◌||◌, Bool, true, false, List, [], ◌∷◌, ◌++◌, Option, Some, None, option_and_then, IfSome, IfNone, IfOk, Result, Ok, Err, inl, inr, length, get_or, count_by, refl, sym, ap, subst, ◌∙◌, arith, length-append, codes}
use Rattle.std.specs.List.{list_any}
use Rattle.std.proofs.lemmas.List.Sums.{sum_by-cons}
use Rattle.std.proofs.lemmas.Bool.{and_parts, and_from, ltb-true, lt-ltb, leb-true, le-leb, eqb-true, eq-eqb, ne_eqb, cases_eq, cases_lt}
use Rattle.serde_json.specs.Data.{Data}
use Rattle.price_certificate.specs.Problem.{Problem, IsReach, IsRow, IsPreceding, IsShaped, IsProblemOf, bin_in}
use Rattle.json_values.specs.Spelling.{number_in, pair_in, list_in, member_in}
use Rattle.price_certificate.specs.Document.{draining_in, version_number, SpellsInstance, SpellsParts}
use Rattle.price_certificate.specs.Instances.{is_row, is_reach, are_once, is_preceding, is_shaped, each_below, problem_of, problem_if, problem_from, problem_in, version_of}
use Rattle.price_certificate.specs.Reach.{rows_in}
use Rattle.price_certificate.specs.declared.version.Version.{Version}
use Rattle.price_certificate.specs.declared.version.Version.TheVariants.{One, Two}
use Rattle.lists.proofs.RisingLemmas.{rises_from, rises_to, all_to, all_from}
use Rattle.price_certificate.proofs.DocumentLaws.{one_problem}

-- ---- tests of lists

row_to : (bins : ℕ) (row : List ℕ) → is_row bins row ≡ true → IsRow bins row
row_to bins row e = record { ascending = rises_to row (and_parts _ _ e).1; in_range = all_to _ (λ (b : ℕ). b < bins) (λ b l. ltb-true b bins l) row (and_parts _ _ e).0 }

row_from : (bins : ℕ) (row : List ℕ) → IsRow bins row → is_row bins row ≡ true
row_from bins row h = and_from _ _ (all_from _ (λ (b : ℕ). b < bins) (λ b l. lt-ltb b bins l) row h.in_range) (rises_from row h.ascending)

reach_to : (limits : List ℕ) (rows : List (List ℕ)) → is_reach limits rows ≡ true → IsReach limits rows
reach_to limits rows e =
    let a = and_parts _ _ e in
    let b = and_parts _ _ a.0 in
    let c = and_parts _ _ b.0 in
    record { items = leb-true _ _ c.0; bins = leb-true _ _ c.1; pairs = leb-true _ _ b.1; each_row = all_to _ (IsRow (length limits)) (row_to (length limits)) rows a.1 }

reach_from : (limits : List ℕ) (rows : List (List ℕ)) → IsReach limits rows → is_reach limits rows ≡ true
reach_from limits rows h = and_from _ _ (and_from _ _ (and_from _ _ (le-leb _ _ h.items) (le-leb _ _ h.bins)) (le-leb _ _ h.pairs)) (all_from _ (IsRow (length limits)) (row_from (length limits)) rows h.each_row)

-- ---- pairs that name no item twice

count_of : ℕ → List (ℕ × ℕ) → ℕ
count_of item pairs = count_by (λ (q : ℕ × ℕ). eqb q.0 item) pairs

count_cons : (item : ℕ) (q : ℕ × ℕ) (pairs : List (ℕ × ℕ)) → count_of item (q ∷ pairs) ≡ cond (eqb q.0 item) 1 0 + count_of item pairs
unfolding count_of
count_cons item q pairs = sum_by-cons (λ (r : ℕ × ℕ). cond (eqb r.0 item) 1 0) q pairs

one_of : (b : Bool) → b ≡ true → ◌≡◌ {A = ℕ} (cond b 1 0) 1
one_of true e = refl
one_of false e = cc

none_of : (b : Bool) → b ≡ false → ◌≡◌ {A = ℕ} (cond b 1 0) 0
none_of true e = cc
none_of false e = refl

at_most_one : (b : Bool) → cond b 1 0 ≤ 1
at_most_one true = omega arith
at_most_one false = omega arith

any_false : (x y : Bool) → (x || y) ≡ false → (x ≡ false) × (y ≡ false)
any_false true y e = cc
any_false false y e = (refl, e)

false_from_not : (b : Bool) → not b ≡ true → b ≡ false
false_from_not true e = cc
false_from_not false e = refl

not_from_false : (b : Bool) → b ≡ false → not b ≡ true
not_from_false true e = cc
not_from_false false e = refl

has : ℕ → List (ℕ × ℕ) → Bool
has item pairs = list_any (λ (q : ℕ × ℕ). eqb q.0 item) pairs

absent : (item : ℕ) (pairs : List (ℕ × ℕ)) → has item pairs ≡ false → count_of item pairs ≡ 0
unfolding count_of has
absent item [] e = refl
absent item (q ∷ pairs) e =
    let h = any_false (eqb q.0 item) (has item pairs) e in
    omega (arith, count_cons item q pairs, none_of (eqb q.0 item) h.0, absent item pairs h.1)

absent_by : (item : ℕ) (q : ℕ × ℕ) (pairs : List (ℕ × ℕ)) (b : Bool) → eqb q.0 item ≡ b → count_of item (q ∷ pairs) ≡ 0 → (count_of item pairs ≡ 0 → has item pairs ≡ false) → has item (q ∷ pairs) ≡ false
unfolding count_of has
absent_by item q pairs true same e more = absurd (omega (arith, e, count_cons item q pairs, one_of (eqb q.0 item) same))
absent_by item q pairs false other e more =
    ap (λ (b : Bool). b || has item pairs) other ∙ more (omega (arith, e, count_cons item q pairs, none_of (eqb q.0 item) other))

is_absent : (item : ℕ) (pairs : List (ℕ × ℕ)) → count_of item pairs ≡ 0 → has item pairs ≡ false
unfolding count_of has
is_absent item [] e = refl
is_absent item (q ∷ pairs) e = absent_by item q pairs (eqb q.0 item) refl e (λ none. is_absent item pairs none)

once_to : (pairs : List (ℕ × ℕ)) → are_once pairs ≡ true → (item : ℕ) → count_of item pairs ≤ 1
unfolding count_of has
once_to [] e item = omega arith
once_to (q ∷ pairs) e item =
    let first : has q.0 pairs ≡ false = false_from_not (has q.0 pairs) (and_parts (not (has q.0 pairs)) (are_once pairs) e).0 in
    let rest : count_of item pairs ≤ 1 = once_to pairs (and_parts (not (has q.0 pairs)) (are_once pairs) e).1 item in
    elim (cases_eq q.0 item) [
      | inl same ↦
          let none : count_of item pairs ≡ 0 = absent item pairs (subst (λ (i : ℕ). has i pairs ≡ false) same first) in
          omega (arith, count_cons item q pairs, at_most_one (eqb q.0 item), none)
      | inr other ↦ omega (arith, count_cons item q pairs, none_of (eqb q.0 item) (ne_eqb q.0 item other), rest)
    ]

once_from : (pairs : List (ℕ × ℕ)) → ((item : ℕ) → count_of item pairs ≤ 1) → are_once pairs ≡ true
unfolding count_of has
once_from [] h = refl
once_from (q ∷ pairs) h =
    let here : count_of q.0 pairs ≡ 0 = omega (arith, h q.0, count_cons q.0 q pairs, one_of (eqb q.0 q.0) (eq-eqb q.0 q.0 refl)) in
    and_from (not (has q.0 pairs)) (are_once pairs) (not_from_false (has q.0 pairs) (is_absent q.0 pairs here)) (once_from pairs (λ item. omega (arith, h item, count_cons item q pairs)))

preceding_to : (items bins : ℕ) (pairs : List (ℕ × ℕ)) → is_preceding items bins pairs ≡ true → IsPreceding items bins pairs
unfolding count_of
preceding_to items bins pairs e = record {
  in_range = all_to _ (λ (q : ℕ × ℕ). (q.0 < items) × (q.1 < bins)) (λ q l. (ltb-true q.0 items (and_parts _ _ l).0, ltb-true q.1 bins (and_parts _ _ l).1)) pairs (and_parts _ _ e).0;
  once = once_to pairs (and_parts _ _ e).1;
}

preceding_from : (items bins : ℕ) (pairs : List (ℕ × ℕ)) → IsPreceding items bins pairs → is_preceding items bins pairs ≡ true
unfolding count_of
preceding_from items bins pairs h =
    and_from _ _ (all_from _ (λ (q : ℕ × ℕ). (q.0 < items) × (q.1 < bins)) (λ q l. and_from _ _ (lt-ltb q.0 items l.0) (lt-ltb q.1 bins l.1)) pairs h.in_range) (once_from pairs h.once)

pub shaped_to : (limits draining : List ℕ) (rows : List (List ℕ)) (pairs : List (ℕ × ℕ)) → is_shaped limits draining rows pairs ≡ true → IsShaped limits draining rows pairs
shaped_to limits draining rows pairs e =
    let a = and_parts _ _ e in
    let b = and_parts _ _ a.0 in
    record { reach = reach_to limits rows b.0; drains = row_to (length limits) draining b.1; preceding = preceding_to (length rows) (length limits) pairs a.1 }

pub shaped_from : (limits draining : List ℕ) (rows : List (List ℕ)) (pairs : List (ℕ × ℕ)) → IsShaped limits draining rows pairs → is_shaped limits draining rows pairs ≡ true
shaped_from limits draining rows pairs h = and_from _ _ (and_from _ _ (reach_from limits rows h.reach) (row_from (length limits) draining h.drains)) (preceding_from (length rows) (length limits) pairs h.preceding)

-- ---- what stands at each number

length_below : {A : Type 0} (at : ℕ → A) (n : ℕ) → length (each_below at n) ≡ n
length_below at zero = refl
length_below at (suc n) = omega (arith, length-append (each_below at n) (at n ∷ []), length_below at n)

at_front : {A : Type 0} (xs ys : List A) (k : ℕ) (d : A) → k < length xs → get_or (xs ++ ys) k d ≡ get_or xs k d
at_front [] ys k d l = absurd (omega arith)
at_front (x ∷ xs) ys zero d l = refl
at_front (x ∷ xs) ys (suc k) d l = at_front xs ys k d (omega arith)

at_end : {A : Type 0} (xs : List A) (y d : A) (k : ℕ) → k ≡ length xs → get_or (xs ++ y ∷ []) k d ≡ y
at_end [] y d zero e = refl
at_end [] y d (suc k) e = absurd (omega (arith, e))
at_end (x ∷ xs) y d zero e = absurd (omega (arith, e))
at_end (x ∷ xs) y d (suc k) e = at_end xs y d k (omega (arith, e))

at_below : {A : Type 0} (at : ℕ → A) (n k : ℕ) (d : A) → k < n → get_or (each_below at n) k d ≡ at k
at_below at zero k d l = absurd (omega (arith, l))
at_below at (suc n) k d l = elim (cases_lt k n) [
  | inl below ↦ at_front (each_below at n) (at n ∷ []) k d (omega (arith, length_below at n, below)) ∙ at_below at n k d below
  | inr last ↦
      let same : k ≡ n = omega (arith, l, last) in
      at_end (each_below at n) (at n) d k (omega (arith, same, length_below at n)) ∙ ap at (sym same)
]

of_parts : (version : Version) (limits draining : List ℕ) (rows : List (List ℕ)) (pairs : List (ℕ × ℕ)) → IsProblemOf (problem_of version limits draining rows pairs) version limits draining rows pairs
of_parts version limits draining rows pairs = record {
  same_version = refl;
  same_limits = refl;
  same_draining = record { each = length_below (λ bin. list_any (λ b. eqb b bin) draining) (length limits); at = λ bin l. at_below (λ bin. list_any (λ b. eqb b bin) draining) (length limits) bin false l };
  same_rows = refl;
  before = record { each = length_below (bin_in pairs) (length rows); bins = λ item l. at_below (bin_in pairs) (length rows) item None l };
}

-- ---- the function is the definition

bind : {A B : Type 0} (f : A → Option B) (o : Option A) (x : A) → o ≡ Some x → option_and_then f o ≡ f x
bind f o x e = ap (option_and_then f) e

abbrev by_pairs : Version → List ℕ → List ℕ → List (List ℕ) → List (ℕ × ℕ) → Option Problem
by_pairs version limits draining rows pairs = problem_if (is_shaped limits draining rows pairs) (problem_of version limits draining rows pairs)

abbrev by_rows : Data → Version → List ℕ → List ℕ → List (List ℕ) → Option Problem
by_rows d version limits draining rows = option_and_then (by_pairs version limits draining rows) (member_in (list_in pair_in) (codes "before") d)

abbrev by_draining : Data → Version → List ℕ → List ℕ → Option Problem
by_draining d version limits draining = option_and_then (by_rows d version limits draining) (member_in rows_in (codes "reach") d)

abbrev by_limits : Data → Version → List ℕ → Option Problem
by_limits d version limits = option_and_then (by_draining d version limits) (draining_in version d)

a_version : (version : Version) → version_of (version_number version) ≡ Some version
a_version One = refl
a_version Two = refl

from_parts : (d : Data) (version : Version) (limits draining : List ℕ) (rows : List (List ℕ)) (pairs : List (ℕ × ℕ)) → SpellsParts d version limits draining rows pairs → problem_in d ≡ problem_if (is_shaped limits draining rows pairs) (problem_of version limits draining rows pairs)
unfolding problem_in
from_parts d version limits draining rows pairs s =
    bind (λ v. problem_from v d) (option_and_then version_of (member_in number_in (codes "version") d)) version (bind version_of (member_in number_in (codes "version") d) (version_number version) s.number ∙ a_version version)
    ∙ (bind (by_limits d version) (member_in (list_in number_in) (codes "bins") d) limits s.bins
    ∙ (bind (by_draining d version limits) (draining_in version d) draining s.drains
    ∙ (bind (by_rows d version limits draining) (member_in rows_in (codes "reach") d) rows s.reach
    ∙ bind (by_pairs version limits draining rows) (member_in (list_in pair_in) (codes "before") d) pairs s.before)))

pub spelled_in : (d : Data) (p : Problem) → SpellsInstance d p → problem_in d ≡ Some p
spelled_in d p h =
    let same = one_problem h.version h.limits h.draining h.rows h.preceding (problem_of h.version h.limits h.draining h.rows h.preceding) p (of_parts h.version h.limits h.draining h.rows h.preceding) h.same in
    from_parts d h.version h.limits h.draining h.rows h.preceding h.parts
    ∙ ap (λ (b : Bool). problem_if b (problem_of h.version h.limits h.draining h.rows h.preceding)) (shaped_from h.limits h.draining h.rows h.preceding h.shaped)
    ∙ ap Some same

step_back : {A B : Type 0} (f : A → Option B) (o : Option A) (y : B) → option_and_then f o ≡ Some y → (x : A) × (o ≡ Some x) × (f x ≡ Some y)
step_back f None y e = cc
step_back f (Some x) y e = (x, refl, e)

passes : (b : Bool) (p q : Problem) → problem_if b p ≡ Some q → (b ≡ true) × (p ≡ q)
passes true p q e = (refl, cc)
passes false p q e = cc

number_back : (number : ℕ) (version : Version) → version_of number ≡ Some version → number ≡ version_number version
number_back number version e = by_one (eqb number 1) (eqb number 2) refl refl e
  where
    by_one : (one two : Bool) → eqb number 1 ≡ one → eqb number 2 ≡ two → cond one (Some One) (cond two (Some Two) None) ≡ Some version → number ≡ version_number version
    by_one true two o t h =
        let same : One ≡ version = cc in
        eqb-true number 1 o ∙ ap version_number same
    by_one false true o t h =
        let same : Two ≡ version = cc in
        eqb-true number 2 t ∙ ap version_number same
    by_one false false o t h = cc

pub in_spelled : (d : Data) (p : Problem) → problem_in d ≡ Some p → SpellsInstance d p
unfolding problem_in
in_spelled d p e =
    let v = step_back (λ version. problem_from version d) (option_and_then version_of (member_in number_in (codes "version") d)) p e in
    let n = step_back version_of (member_in number_in (codes "version") d) v.0 v.1 in
    let l = step_back (by_limits d v.0) (member_in (list_in number_in) (codes "bins") d) p v.2 in
    let g = step_back (by_draining d v.0 l.0) (draining_in v.0 d) p l.2 in
    let r = step_back (by_rows d v.0 l.0 g.0) (member_in rows_in (codes "reach") d) p g.2 in
    let b = step_back (by_pairs v.0 l.0 g.0 r.0) (member_in (list_in pair_in) (codes "before") d) p r.2 in
    let last = passes (is_shaped l.0 g.0 r.0 b.0) (problem_of v.0 l.0 g.0 r.0 b.0) p b.2 in
    record {
      version = v.0;
      limits = l.0;
      draining = g.0;
      rows = r.0;
      preceding = b.0;
      parts = record { number = n.1 ∙ ap Some (number_back n.0 v.0 n.2); bins = l.1; drains = g.1; reach = r.1; before = b.1 };
      shaped = shaped_to l.0 g.0 r.0 b.0 last.0;
      same = subst (λ (q : Problem). IsProblemOf q v.0 l.0 g.0 r.0 b.0) last.1 (of_parts v.0 l.0 g.0 r.0 b.0);
    }

-- what the definition gives or refuses is what the function does
pub is_problem_in : (d : Data) (found o : Option Problem) → problem_in d ≡ found → IfSome o (λ p. SpellsInstance d p) → IfNone o ((p : Problem) → SpellsInstance d p → ⊥) → o ≡ problem_in d
is_problem_in d found None e some none = elim found as (λ f. problem_in d ≡ f → None ≡ problem_in d) [
  | None ↦ λ h. sym h
  | Some p ↦ λ h. absurd (none p (in_spelled d p h))
] e
is_problem_in d found (Some p) e some none = sym (spelled_in d p some)

pub read_as : {E : Type 0} (d : Data) (r : Result (Option Problem) E) → IfOk r (λ o. IfSome o (λ p. SpellsInstance d p)) → IfOk r (λ o. IfNone o ((p : Problem) → SpellsInstance d p → ⊥)) → IfOk r (λ o. o ≡ problem_in d)
read_as d (Ok o) some none = is_problem_in d (problem_in d) o refl some none
read_as d (Err e) some none = tt
