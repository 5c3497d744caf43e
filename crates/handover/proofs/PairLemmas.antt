-- Lists of pairs in order of target, and the pairs of rows.
use Rattle.std.proofs.Common.{◌≡◌, ℕ, zero, suc, ◌+◌, ◌-◌, ◌<◌, ◌≤◌, List, [], ◌∷◌, ◌++◌, Bool, true, false, Option, Some, None, length, get_or, drop, take, cond, refl, sym, ap, ◌∙◌, inl, inr, AllPairs, arith}
use Rattle.std.specs.Prelude.{◌==◌, ◌&&◌, if◌then◌else◌, not}
use Rattle.std.proofs.lemmas.List.{take_more}
use Rattle.std.proofs.lemmas.Bool.{cases_eq, eq-eqb, ne_eqb}
use Rattle.std.proofs.lemmas.Bool.Decides.{nat_tests}
use Rattle.handover.specs.Handover.{beside, holds}
use Rattle.handover.specs.Spans.{Row, holder_at, spans_of, with_pair, pairs_from, changed, is_beside, without}
use Rattle.handover.specs.declared.spans.Span.{Span}
use Rattle.handover.proofs.SpanLemmas.{newly, change_by}

-- the pairs are strictly ascending by target, none below the one given
abbrev pub Ascends : ℕ → List (ℕ × ℕ) → Type 0
Ascends low [] = Unit {0}
Ascends low (q ∷ pairs) = (low ≤ q.0) × Ascends (suc q.0) pairs

pub ascends_from : (low : ℕ) (pairs : List (ℕ × ℕ)) → AllPairs (λ (a b : ℕ × ℕ). a.0 < b.0) pairs → ((d : ℕ × ℕ) → 0 < length pairs → low ≤ (get_or pairs 0 d).0) → Ascends low pairs
ascends_from low [] all least = tt
ascends_from low (q ∷ pairs) all least =
    (least q (omega arith), ascends_from (suc q.0) pairs (λ i j d o l. all (suc i) (suc j) d (omega arith) (omega arith)) (λ d l. let o = all 0 1 d (omega arith) (omega arith) in omega (arith, o)))

pub ascends : (pairs : List (ℕ × ℕ)) → AllPairs (λ (a b : ℕ × ℕ). a.0 < b.0) pairs → Ascends 0 pairs
ascends pairs all = ascends_from 0 pairs all (λ d l. omega arith)

pub ascends_lower : (low least : ℕ) (pairs : List (ℕ × ℕ)) → Ascends low pairs → least ≤ low → Ascends least pairs
ascends_lower low least [] up l = tt
ascends_lower low least (q ∷ pairs) up l = (omega (arith, up.0), up.1)

pub below_none : (low target : ℕ) (pairs : List (ℕ × ℕ)) → Ascends low pairs → target < low → beside pairs target ≡ None
below_none low target [] up l = refl
below_none low target (q ∷ pairs) up l =
    let first : low ≤ q.0 = up.0 in
    let rest : beside pairs target ≡ None = below_none (suc q.0) target pairs up.1 (omega arith) in
    grind (arith, nat_tests, first, rest)

without_step :
    (o later : Option ℕ) (q : ℕ × ℕ) (target : ℕ) (rest : List (ℕ × ℕ)) (here same : Bool) → (q.0 == target) ≡ here → (here ≡ true → (same ≡ holds o q.1) × (later ≡ None)) → beside rest target ≡ newly o later
    → beside (cond (not same) (q ∷ rest) rest) target ≡ newly o (cond here (Some q.1) later)
without_step o later q target rest true true e first more =
    let none : newly o later ≡ None = ap (newly o) (first refl).1 in
    let test : holds o q.1 ≡ true = sym (first refl).0 in
    more ∙ none ∙ sym (ap (λ (b : Bool). if b then None else Some q.1) test)
without_step o later q target rest true false e first more =
    let test : holds o q.1 ≡ false = sym (first refl).0 in
    ap (λ (b : Bool). if b then Some q.1 else beside rest target) e ∙ sym (ap (λ (b : Bool). if b then None else Some q.1) test)
without_step o later q target rest false true e first more = more
without_step o later q target rest false false e first more = ap (λ (b : Bool). if b then Some q.1 else beside rest target) e ∙ more

-- a pair of the target is the only one
alone : (q : ℕ × ℕ) (target : ℕ) (pairs : List (ℕ × ℕ)) → Ascends (suc q.0) pairs → (q.0 == target) ≡ true → (q.0 ≡ target) × (beside pairs target ≡ None)
alone q target pairs up e =
    let same : q.0 ≡ target = grind (arith, nat_tests, e) in
    (same, below_none (suc q.0) target pairs up (omega arith))

-- what the others lack, target by target
pub beside-without : (others pairs : List (ℕ × ℕ)) (low target : ℕ) → Ascends low pairs → beside (without others pairs) target ≡ newly (beside others target) (beside pairs target)
beside-without others [] low target up = refl
beside-without others (q ∷ pairs) low target up =
    without_step (beside others target) (beside pairs target) q target (without others pairs) (q.0 == target) (is_beside others q.0 q.1) refl
    (λ e. let one = alone q target pairs up.1 e in (ap (λ (n : ℕ). holds (beside others n) q.1) one.0, one.1)) (beside-without others pairs (suc q.0) target up.1)

changed_step : (change : ℕ → List Span → List Span) (q : ℕ × ℕ) (spans : List Span) (later : Option ℕ) (here : Bool) → (here ≡ true → later ≡ None) → change_by change later (if here then change q.1 spans else spans) ≡ change_by change (cond here (Some q.1) later) spans
changed_step change q spans later true none = ap (λ (o : Option ℕ). change_by change o (change q.1 spans)) (none refl)
changed_step change q spans later false none = refl

-- one change at most for each target
pub changed-beside : (change : ℕ → List Span → List Span) (pairs : List (ℕ × ℕ)) (low target : ℕ) (spans : List Span) → Ascends low pairs → changed change pairs target spans ≡ change_by change (beside pairs target) spans
changed-beside change [] low target spans up = refl
changed-beside change (q ∷ pairs) low target spans up =
    changed-beside change pairs (suc q.0) target (if q.0 == target then change q.1 spans else spans) up.1 ∙ changed_step change q spans (beside pairs target) (q.0 == target) (λ e. (alone q target pairs up.1 e).1)

pub from_ascends : (rows : List Row) (target number : ℕ) → Ascends target (pairs_from rows target number)
from_ascends [] target number = tt
from_ascends (row ∷ rows) target number = by (holder_at row.spans number) (pairs_from rows (suc target) number) (from_ascends rows (suc target) number)
  where
    by : (o : Option ℕ) (pairs : List (ℕ × ℕ)) → Ascends (suc target) pairs → Ascends target (with_pair target o pairs)
    by None pairs up = ascends_lower (suc target) target pairs up (omega arith)
    by (Some c) pairs up = (omega arith, up)

beside-with_pair_here : (target : ℕ) (o : Option ℕ) (pairs : List (ℕ × ℕ)) → Ascends (suc target) pairs → beside (with_pair target o pairs) target ≡ o
beside-with_pair_here target None pairs up = below_none (suc target) target pairs up (omega arith)
beside-with_pair_here target (Some c) pairs up = grind (arith, nat_tests)

beside-with_pair_other : (target other : ℕ) (o : Option ℕ) (pairs : List (ℕ × ℕ)) → target < other → beside (with_pair target o pairs) other ≡ beside pairs other
beside-with_pair_other target other None pairs l = refl
beside-with_pair_other target other (Some c) pairs l = grind (arith, nat_tests, l)

-- the pairs of rows are the rows' holders
pub beside-pairs_from : (rows : List Row) (first target number k : ℕ) → target ≡ first + k → beside (pairs_from rows first number) target ≡ holder_at (spans_of rows k) number
beside-pairs_from [] first target number k e = refl
beside-pairs_from (row ∷ rows) first target number zero e =
    let same : target ≡ first = omega arith in
    ap (λ (n : ℕ). beside (with_pair first (holder_at row.spans number) (pairs_from rows (suc first) number)) n) same
    ∙ beside-with_pair_here first (holder_at row.spans number) (pairs_from rows (suc first) number) (from_ascends rows (suc first) number)
beside-pairs_from (row ∷ rows) first target number (suc k) e =
    beside-with_pair_other first target (holder_at row.spans number) (pairs_from rows (suc first) number) (omega arith) ∙ beside-pairs_from rows (suc first) target number k (omega arith)

-- the pairs that say who holds each target are the pairs of the rows
pub pairs_from-by : (rows : List Row) (first number : ℕ) (pairs : List (ℕ × ℕ)) → Ascends first pairs → ((k target : ℕ) → target ≡ first + k → holder_at (spans_of rows k) number ≡ beside pairs target) → pairs_from rows first number ≡ pairs
pairs_from-by [] first number [] up each = refl
pairs_from-by [] first number (q ∷ pairs) up each =
    let low : first ≤ q.0 = up.0 in
    let none : None ≡ beside (q ∷ pairs) q.0 = each (q.0 - first) q.0 (omega arith) in
    let some : beside (q ∷ pairs) q.0 ≡ Some q.1 = grind (arith, nat_tests) in
    absurd (cc (none, some))
pairs_from-by (row ∷ rows) first number [] up each =
    let rest : pairs_from rows (suc first) number ≡ [] = pairs_from-by rows (suc first) number [] tt (λ k target e. each (suc k) target (omega arith)) in
    let none : holder_at row.spans number ≡ None = each 0 first (omega arith) in
    ap (λ (o : Option ℕ). with_pair first o (pairs_from rows (suc first) number)) none ∙ rest
pairs_from-by (row ∷ rows) first number (q ∷ pairs) up each = elim (cases_eq q.0 first) [
  | inl e ↦
      let held : holder_at row.spans number ≡ Some q.1 = each 0 first (omega arith) ∙ ap (λ (b : Bool). if b then Some q.1 else beside pairs first) (eq-eqb q.0 first e) in
      let rest : pairs_from rows (suc first) number ≡ pairs = pairs_from-by rows (suc first) number pairs (ascends_lower (suc q.0) (suc first) pairs up.1 (omega arith)) (λ k target f. each (suc k) target (omega arith) ∙ ap (λ (b : Bool). if b then Some q.1 else beside pairs target) (ne_eqb q.0 target (λ g. absurd (omega arith)))) in
      ap (λ (o : Option ℕ). with_pair first o (pairs_from rows (suc first) number)) held ∙ ap (λ (r : List (ℕ × ℕ)). (first, q.1) ∷ r) rest ∙ ap (λ (n : ℕ). (n, q.1) ∷ pairs) (sym e)
  | inr n ↦
      let low : first ≤ q.0 = up.0 in
      let above : Ascends (suc first) (q ∷ pairs) = (omega arith, up.1) in
      let none : holder_at row.spans number ≡ None = each 0 first (omega arith) ∙ below_none (suc first) first (q ∷ pairs) above (omega arith) in
      let rest : pairs_from rows (suc first) number ≡ q ∷ pairs = pairs_from-by rows (suc first) number (q ∷ pairs) above (λ k target f. each (suc k) target (omega arith)) in
      ap (λ (o : Option ℕ). with_pair first o (pairs_from rows (suc first) number)) none ∙ rest
]

-- rows with the same holders have the same pairs
pub pairs_from-same : (rows others : List Row) (number : ℕ) → ((k : ℕ) → holder_at (spans_of rows k) number ≡ holder_at (spans_of others k) number) → pairs_from rows 0 number ≡ pairs_from others 0 number
pairs_from-same rows others number same =
    pairs_from-by rows 0 number (pairs_from others 0 number) (from_ascends others 0 number) (λ k target e. same k ∙ sym (beside-pairs_from others 0 target number k e))

-- what stands before the first place at which the target is not below is not looked at
beside-drop : (pairs : List (ℕ × ℕ)) (place target : ℕ) → place ≤ length pairs → ((k : ℕ) → k < place → (get_or pairs k (0, 0)).0 < target) → beside pairs target ≡ beside (drop place pairs) target
beside-drop [] zero target l passed = refl
beside-drop [] (suc place) target l passed = refl
beside-drop (q ∷ pairs) zero target l passed = refl
beside-drop (q ∷ pairs) (suc place) target l passed =
    let first : q.0 < target = passed 0 (omega arith) in
    ap (λ (b : Bool). if b then Some q.1 else beside pairs target) (ne_eqb q.0 target (λ e. absurd (omega arith))) ∙ beside-drop pairs place target (omega arith) (λ k l. passed (suc k) (omega arith))

-- the place at which the target is not below decides
beside-at : (pairs : List (ℕ × ℕ)) (low place target : ℕ) → Ascends low pairs → place < length pairs → target ≤ (get_or pairs place (0, 0)).0 → beside (drop place pairs) target ≡ (if (get_or pairs place (0, 0)).0 == target then Some (get_or pairs place (0, 0)).1 else None)
beside-at [] low place target up l reached = absurd (omega arith)
beside-at (q ∷ pairs) low zero target up l reached =
    let none : beside pairs target ≡ None = below_none (suc q.0) target pairs up.1 (omega arith) in
    ap (λ (o : Option ℕ). if q.0 == target then Some q.1 else o) none
beside-at (q ∷ pairs) low (suc place) target up l reached = beside-at pairs (suc q.0) place target up.1 (omega arith) reached

holds_if : (b : Bool) (holder collector : ℕ) → holds (if b then Some holder else None) collector ≡ (b && (holder == collector))
holds_if true holder collector = refl
holds_if false holder collector = refl

pub is_beside-at :
    (pairs : List (ℕ × ℕ)) (place target collector : ℕ) → AllPairs (λ (a b : ℕ × ℕ). a.0 < b.0) pairs → place < length pairs → ((k : ℕ) → k < place → (get_or pairs k (0, 0)).0 < target) → target ≤ (get_or pairs place (0, 0)).0
    → is_beside pairs target collector ≡ (((get_or pairs place (0, 0)).0 == target) && ((get_or pairs place (0, 0)).1 == collector))
is_beside-at pairs place target collector all l passed reached =
    let is : beside pairs target ≡ (if (get_or pairs place (0, 0)).0 == target then Some (get_or pairs place (0, 0)).1 else None) = beside-drop pairs place target (omega arith) passed ∙ beside-at pairs 0 place target (ascends pairs all) l reached in
    ap (λ (o : Option ℕ). holds o collector) is ∙ holds_if ((get_or pairs place (0, 0)).0 == target) (get_or pairs place (0, 0)).1 collector

pub is_beside-same :
    (pairs : List (ℕ × ℕ)) (place target collector : ℕ) → AllPairs (λ (a b : ℕ × ℕ). a.0 < b.0) pairs → place < length pairs → ((k : ℕ) → k < place → (get_or pairs k (0, 0)).0 < target) → (get_or pairs place (0, 0)).0 ≡ target
    → ((get_or pairs place (0, 0)).1 == collector) ≡ is_beside pairs target collector
is_beside-same pairs place target collector all l passed e =
    sym (is_beside-at pairs place target collector all l passed (omega arith) ∙ ap (λ (b : Bool). b && ((get_or pairs place (0, 0)).1 == collector)) (eq-eqb (get_or pairs place (0, 0)).0 target e))

pub is_beside-other :
    (pairs : List (ℕ × ℕ)) (place target collector : ℕ) → AllPairs (λ (a b : ℕ × ℕ). a.0 < b.0) pairs → place < length pairs → ((k : ℕ) → k < place → (get_or pairs k (0, 0)).0 < target) → target ≤ (get_or pairs place (0, 0)).0 → ((get_or pairs place (0, 0)).0 ≡ target → ⊥)
    → ((get_or pairs place (0, 0)).0 == target) ≡ is_beside pairs target collector
is_beside-other pairs place target collector all l passed reached n =
    let test : ((get_or pairs place (0, 0)).0 == target) ≡ false = ne_eqb (get_or pairs place (0, 0)).0 target n in
    test ∙ sym (is_beside-at pairs place target collector all l passed reached ∙ ap (λ (b : Bool). b && ((get_or pairs place (0, 0)).1 == collector)) test)

pub is_beside-end : (pairs : List (ℕ × ℕ)) (place target collector : ℕ) → length pairs ≡ place → ((k : ℕ) → k < place → (get_or pairs k (0, 0)).0 < target) → false ≡ is_beside pairs target collector
is_beside-end pairs place target collector e passed =
    let is : beside pairs target ≡ None = beside-drop pairs place target (omega arith) passed ∙ ap (λ (ps : List (ℕ × ℕ)). beside ps target) (drop_all pairs place e) in
    sym (ap (λ (o : Option ℕ). holds o collector) is)
  where
    drop_all : (pairs : List (ℕ × ℕ)) (place : ℕ) → length pairs ≡ place → drop place pairs ≡ []
    drop_all [] zero e = refl
    drop_all [] (suc place) e = refl
    drop_all (q ∷ pairs) zero e = absurd (omega arith)
    drop_all (q ∷ pairs) (suc place) e = drop_all pairs place (omega arith)

pub without-push : (others pairs : List (ℕ × ℕ)) (q : ℕ × ℕ) → without others (pairs ++ q ∷ []) ≡ (if is_beside others q.0 q.1 then without others pairs else without others pairs ++ q ∷ [])
without-push others [] q = by (is_beside others q.0 q.1)
  where
    by : (b : Bool) → cond (not b) (q ∷ []) [] ≡ (if b then [] else q ∷ [])
    by true = refl
    by false = refl
without-push others (p ∷ pairs) q = by (is_beside others p.0 p.1) (is_beside others q.0 q.1) (without-push others pairs q)
  where
    by : (a b : Bool) → without others (pairs ++ q ∷ []) ≡ (if b then without others pairs else without others pairs ++ q ∷ []) → cond (not a) (p ∷ without others (pairs ++ q ∷ [])) (without others (pairs ++ q ∷ [])) ≡ (if b then cond (not a) (p ∷ without others pairs) (without others pairs) else cond (not a) (p ∷ without others pairs) (without others pairs) ++ q ∷ [])
    by true b e = e
    by false true e = ap (λ (r : List (ℕ × ℕ)). p ∷ r) e
    by false false e = ap (λ (r : List (ℕ × ℕ)). p ∷ r) e

all_above : (low : ℕ) (pairs : List (ℕ × ℕ)) → Ascends low pairs → (j : ℕ) (d : ℕ × ℕ) → j < length pairs → low ≤ (get_or pairs j d).0
all_above low [] up j d l = absurd (omega arith)
all_above low (q ∷ pairs) up zero d l = up.0
all_above low (q ∷ pairs) up (suc j) d l = omega (arith, up.0, all_above (suc q.0) pairs up.1 j d (omega arith))

pub all_pairs : (low : ℕ) (pairs : List (ℕ × ℕ)) → Ascends low pairs → AllPairs (λ (a b : ℕ × ℕ). a.0 < b.0) pairs
all_pairs low [] up i j d o l = absurd (omega arith)
all_pairs low (q ∷ pairs) up zero zero d o l = absurd (omega arith)
all_pairs low (q ∷ pairs) up zero (suc j) d o l = omega (arith, all_above (suc q.0) pairs up.1 j d (omega arith))
all_pairs low (q ∷ pairs) up (suc i) zero d o l = absurd (omega arith)
all_pairs low (q ∷ pairs) up (suc i) (suc j) d o l = all_pairs (suc q.0) pairs up.1 i j d (omega arith) (omega arith)

pub without_more :
    (others pairs : List (ℕ × ℕ)) (i : ℕ) (q : ℕ × ℕ) (b : Bool) → i < length pairs → q ≡ get_or pairs i q → is_beside others q.0 q.1 ≡ b
    → without others (take (i + 1) pairs) ≡ (if b then without others (take i pairs) else without others (take i pairs) ++ q ∷ [])
without_more others pairs i q b l e is =
    ap (without others) (take_more pairs i q l ∙ ap (λ (r : ℕ × ℕ). take i pairs ++ r ∷ []) (sym e)) ∙ without-push others (take i pairs) q
    ∙ ap (λ (a : Bool). if a then without others (take i pairs) else without others (take i pairs) ++ q ∷ []) is

pub ascends_without : (others pairs : List (ℕ × ℕ)) (low : ℕ) → Ascends low pairs → Ascends low (without others pairs)
ascends_without others [] low up = tt
ascends_without others (q ∷ pairs) low up = by (not (is_beside others q.0 q.1)) (ascends_without others pairs (suc q.0) up.1)
  where
    by : (b : Bool) → Ascends (suc q.0) (without others pairs) → Ascends low (cond b (q ∷ without others pairs) (without others pairs))
    by true rest = (up.0, rest)
    by false rest = ascends_lower (suc q.0) low (without others pairs) rest (omega (arith, up.0))
