-- The rows of all targets, and what a write of one row makes of them.
use Rattle.std.proofs.Common.{◌≡◌, ℕ, zero, suc, ◌+◌, ◌<◌, ◌≤◌, List, [], ◌∷◌, ◌++◌, Bool, true, false, Option, Some, None, length, get_or, drop, cond, refl, sym, ap, subst, ◌∙◌, inl, inr, arith, add-one, drop-cons, append_assoc}
use Rattle.std.proofs.Math.ListN.{set}
use Rattle.std.specs.Prelude.{◌==◌, if◌then◌else◌, map, filter}
use Rattle.std.proofs.lemmas.Bool.{cases_eq, eq-eqb, ne_eqb}
use Rattle.std.proofs.lemmas.Bool.Decides.{nat_tests}
use Rattle.handover.specs.Handover.{targets_of, holds}
use Rattle.handover.specs.Spans.{Row, holder_at, spans_of, room_of, with_pair, pairs_from, closed, changed, AreSpans}
use Rattle.handover.specs.declared.spans.Span.{Span}

pub spans_of-get_or : (rows : List Row) (k : ℕ) (d : Row) → k < length rows → spans_of rows k ≡ (get_or rows k d).spans
spans_of-get_or [] k d l = absurd (omega arith)
spans_of-get_or (row ∷ rows) zero d l = refl
spans_of-get_or (row ∷ rows) (suc k) d l = spans_of-get_or rows k d (omega arith)

pub room_of-get_or : (rows : List Row) (k : ℕ) (d : Row) → k < length rows → room_of rows k ≡ (get_or rows k d).room
room_of-get_or [] k d l = absurd (omega arith)
room_of-get_or (row ∷ rows) zero d l = refl
room_of-get_or (row ∷ rows) (suc k) d l = room_of-get_or rows k d (omega arith)

pub spans_of-past : (rows : List Row) (k : ℕ) → length rows ≤ k → spans_of rows k ≡ []
spans_of-past [] k l = refl
spans_of-past (row ∷ rows) zero l = absurd (omega arith)
spans_of-past (row ∷ rows) (suc k) l = spans_of-past rows k (omega arith)

-- where there is room there is a row
pub room_within : (rows : List Row) (k : ℕ) → 0 < room_of rows k → k < length rows
room_within [] k l = absurd (omega arith)
room_within (row ∷ rows) zero l = omega arith
room_within (row ∷ rows) (suc k) l = omega (arith, room_within rows k l)

pub spans_of-push : (rows : List Row) (row : Row) (k : ℕ) → row.spans ≡ [] → spans_of (rows ++ row ∷ []) k ≡ spans_of rows k
spans_of-push [] row zero e = e
spans_of-push [] row (suc k) e = refl
spans_of-push (first ∷ rows) row zero e = refl
spans_of-push (first ∷ rows) row (suc k) e = spans_of-push rows row k e

pub room_of-push : (rows : List Row) (row : Row) (k : ℕ) → room_of rows k ≤ room_of (rows ++ row ∷ []) k
room_of-push [] row k = omega arith
room_of-push (first ∷ rows) row zero = omega arith
room_of-push (first ∷ rows) row (suc k) = room_of-push rows row k

pub spans_of-set : (rows : List Row) (i : ℕ) (row : Row) (k : ℕ) → i < length rows → spans_of (set rows i row) k ≡ (if i == k then row.spans else spans_of rows k)
spans_of-set [] i row k l = absurd (omega arith)
spans_of-set (first ∷ rows) zero row zero l = refl
spans_of-set (first ∷ rows) zero row (suc k) l = sym (ap (λ (b : Bool). if b then row.spans else spans_of rows k) (ne_eqb 0 (suc k) (λ e. absurd (omega arith))))
spans_of-set (first ∷ rows) (suc i) row zero l = sym (ap (λ (b : Bool). if b then row.spans else first.spans) (ne_eqb (suc i) 0 (λ e. absurd (omega arith))))
spans_of-set (first ∷ rows) (suc i) row (suc k) l = spans_of-set rows i row k (omega arith) ∙ ap (λ (b : Bool). if b then row.spans else spans_of rows k) (grind (arith, nat_tests))

pub room_of-set : (rows : List Row) (i : ℕ) (row : Row) (k : ℕ) → i < length rows → room_of (set rows i row) k ≡ (if i == k then row.room else room_of rows k)
room_of-set [] i row k l = absurd (omega arith)
room_of-set (first ∷ rows) zero row zero l = refl
room_of-set (first ∷ rows) zero row (suc k) l = sym (ap (λ (b : Bool). if b then row.room else room_of rows k) (ne_eqb 0 (suc k) (λ e. absurd (omega arith))))
room_of-set (first ∷ rows) (suc i) row zero l = sym (ap (λ (b : Bool). if b then row.room else first.room) (ne_eqb (suc i) 0 (λ e. absurd (omega arith))))
room_of-set (first ∷ rows) (suc i) row (suc k) l = room_of-set rows i row k (omega arith) ∙ ap (λ (b : Bool). if b then row.room else room_of rows k) (grind (arith, nat_tests))

-- one more pair is done
pub changed-step :
    (change : ℕ → List Span → List Span) (pairs : List (ℕ × ℕ)) (i : ℕ) (q : ℕ × ℕ) (k : ℕ) (before after : List Span) → i < length pairs → q ≡ get_or pairs i q → after ≡ (if q.0 == k then change q.1 before else before)
    → changed change (drop (i + 1) pairs) k after ≡ changed change (drop i pairs) k before
changed-step change pairs i q k before after l e is =
    let rest : drop i pairs ≡ q ∷ drop (i + 1) pairs = drop-cons pairs i q l ∙ ap (λ (r : ℕ × ℕ). r ∷ drop (suc i) pairs) (sym e) ∙ ap (λ (j : ℕ). q ∷ drop j pairs) (sym (add-one i)) in
    ap (changed change (drop (i + 1) pairs) k) is ∙ ap (λ (ps : List (ℕ × ℕ)). changed change ps k before) (sym rest)

-- a row that is written
pub spans_written : (rows : List Row) (i : ℕ) (row : Row) (change : List Span → List Span) (k : ℕ) → i < length rows → row.spans ≡ change (spans_of rows i) → spans_of (set rows i row) k ≡ (if i == k then change (spans_of rows k) else spans_of rows k)
spans_written rows i row change k l is = spans_of-set rows i row k l ∙ by (i == k) refl
  where
    by : (b : Bool) → (i == k) ≡ b → (if b then row.spans else spans_of rows k) ≡ (if b then change (spans_of rows k) else spans_of rows k)
    by true e = let same : i ≡ k = grind (arith, nat_tests, e) in is ∙ ap (λ (n : ℕ). change (spans_of rows n)) same
    by false e = refl

pub room_written : (rows : List Row) (i : ℕ) (row : Row) (k : ℕ) → i < length rows → row.room ≡ room_of rows i → room_of (set rows i row) k ≡ room_of rows k
room_written rows i row k l is = room_of-set rows i row k l ∙ by (i == k) refl
  where
    by : (b : Bool) → (i == k) ≡ b → (if b then row.room else room_of rows k) ≡ room_of rows k
    by true e = let same : i ≡ k = grind (arith, nat_tests, e) in is ∙ ap (room_of rows) same
    by false e = refl

pub room_of-set_other : (rows : List Row) (i : ℕ) (row : Row) (k : ℕ) → i < length rows → (i ≡ k → ⊥) → room_of (set rows i row) k ≡ room_of rows k
room_of-set_other rows i row k l n = room_of-set rows i row k l ∙ ap (λ (b : Bool). if b then row.room else room_of rows k) (ne_eqb i k n)

-- a target without a row has no span to close
pub nothing_closed : (rows : List Row) (i number k : ℕ) → length rows ≤ i → spans_of rows k ≡ (if i == k then closed number (spans_of rows k) else spans_of rows k)
nothing_closed rows i number k l = by (i == k) refl
  where
    by : (b : Bool) → (i == k) ≡ b → spans_of rows k ≡ (if b then closed number (spans_of rows k) else spans_of rows k)
    by true e =
        let past : length rows ≤ k = grind (arith, nat_tests, e) in
        let none : spans_of rows k ≡ [] = spans_of-past rows k past in
        none ∙ sym (ap (closed number) none)
    by false e = refl

pub spans_kept : (rows : List Row) (i : ℕ) (row : Row) (k : ℕ) → i < length rows → row.spans ≡ spans_of rows i → spans_of (set rows i row) k ≡ spans_of rows k
spans_kept rows i row k l is = spans_of-set rows i row k l ∙ by (i == k) refl
  where
    by : (b : Bool) → (i == k) ≡ b → (if b then row.spans else spans_of rows k) ≡ spans_of rows k
    by true e = let same : i ≡ k = grind (arith, nat_tests, e) in is ∙ ap (spans_of rows) same
    by false e = refl

pub room_more : (rows : List Row) (i : ℕ) (row : Row) (k : ℕ) → i < length rows → room_of rows i ≤ row.room → room_of rows k ≤ room_of (set rows i row) k
room_more rows i row k l more = elim (cases_eq i k) [
  | inl e ↦
      let is = room_of-set rows i row k l ∙ ap (λ (b : Bool). if b then row.room else room_of rows k) (eq-eqb i k e) in
      let same = ap (room_of rows) e in
      omega (arith, is, same)
  | inr n ↦ omega (arith, room_of-set_other rows i row k l n)
]

pub room_here : (rows : List Row) (i : ℕ) (row : Row) → i < length rows → room_of (set rows i row) i ≡ row.room
room_here rows i row l = room_of-set rows i row i l ∙ ap (λ (b : Bool). if b then row.room else room_of rows i) (eq-eqb i i refl)

-- an element is the same whatever stands for a missing one
pub same_item : {X : Type 0} (xs : List X) (i : ℕ) (d e : X) → i < length xs → get_or xs i d ≡ get_or xs i e
same_item [] i d e l = absurd (omega arith)
same_item (x ∷ xs) zero d e l = refl
same_item (x ∷ xs) (suc i) d e l = same_item xs i d e (omega arith)

-- the row that the code holds
pub spans_of-row : (rows : List Row) (k : ℕ) (row : Row) → k < length rows → row ≡ get_or rows k row → spans_of rows k ≡ row.spans
spans_of-row rows k row l e = spans_of-get_or rows k row l ∙ ap (λ (r : Row). r.spans) (sym e)

pub room_of-row : (rows : List Row) (k : ℕ) (row : Row) → k < length rows → row ≡ get_or rows k row → room_of rows k ≡ row.room
room_of-row rows k row l e = room_of-get_or rows k row l ∙ ap (λ (r : Row). r.room) (sym e)

pub row_are : (m k : ℕ) (rows : List Row) (row : Row) → AreSpans m 0 (spans_of rows k) → k < length rows → row ≡ get_or rows k row → AreSpans m 0 row.spans
row_are m k rows row are l e = subst (AreSpans m 0) (spans_of-row rows k row l e) are

-- the targets beside a collector, row by row
pub targets_of-row :
    (rows : List Row) (i number collector : ℕ) (row : Row) (found : List ℕ) (b : Bool) → i < length rows → row ≡ get_or rows i row → holds (holder_at row.spans number) collector ≡ b
    → found ++ targets_of (pairs_from (drop i rows) i number) collector ≡ (if b then found ++ i ∷ [] else found) ++ targets_of (pairs_from (drop (i + 1) rows) (i + 1) number) collector
targets_of-row rows i number collector row found b l e is =
    let rest : drop i rows ≡ row ∷ drop (i + 1) rows = drop-cons rows i row l ∙ ap (λ (r : Row). r ∷ drop (suc i) rows) (sym e) ∙ ap (λ (j : ℕ). row ∷ drop j rows) (sym (add-one i)) in
    ap (λ (rs : List Row). found ++ targets_of (pairs_from rs i number) collector) rest
    ∙ ap (λ (j : ℕ). found ++ targets_of (with_pair i (holder_at row.spans number) (pairs_from (drop (i + 1) rows) j number)) collector) (sym (add-one i))
    ∙ by (holder_at row.spans number) b is (pairs_from (drop (i + 1) rows) (i + 1) number)
  where
    by : (o : Option ℕ) (b : Bool) → holds o collector ≡ b → (pairs : List (ℕ × ℕ)) → found ++ targets_of (with_pair i o pairs) collector ≡ (if b then found ++ i ∷ [] else found) ++ targets_of pairs collector
    by None true f pairs = absurd (cc (f))
    by None false f pairs = refl
    by (Some c) true f pairs = ap (λ (a : Bool). found ++ map (λ (q : ℕ × ℕ). q.0) (cond a ((i, c) ∷ filter (λ (q : ℕ × ℕ). q.1 == collector) pairs) (filter (λ (q : ℕ × ℕ). q.1 == collector) pairs))) f ∙ sym append_assoc_here
      where
        append_assoc_here : (found ++ i ∷ []) ++ targets_of pairs collector ≡ found ++ i ∷ targets_of pairs collector
        append_assoc_here = simp append_assoc
    by (Some c) false f pairs = ap (λ (a : Bool). found ++ map (λ (q : ℕ × ℕ). q.0) (cond a ((i, c) ∷ filter (λ (q : ℕ × ℕ). q.1 == collector) pairs) (filter (λ (q : ℕ × ℕ). q.1 == collector) pairs))) f
