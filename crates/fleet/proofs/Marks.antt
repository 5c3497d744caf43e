-- Marks for the numbers of lists: what is marked, and what is still to be marked.
use Rattle.std.proofs.Common.{◌≡◌, ℕ, zero, suc, ◌+◌, ◌<◌, ◌≤◌, ◌||◌, List, [], ◌∷◌, ◌++◌, Bool, true, false, length, get_or, drop, cond, eqb, refl, sym, ap, subst, ◌∙◌, inl, inr, arith, add-one, drop-cons}
use Rattle.std.specs.List.{list_any}
use Rattle.std.proofs.Math.ListN.{set, length-set}
use Rattle.std.specs.Prelude.{replicate}
use Rattle.std.proofs.lemmas.List.{get_or-set_same, get_or-set_other, get_or-replicate, length-replicate}
use Rattle.std.proofs.lemmas.Bool.{cases_eq, eq-eqb, ne_eqb}
use Rattle.fleet.specs.Live.{chosen_below, count_below, mark_at, AreMarks, AddsMarks}

-- the numbers of the elements from a place on are still to be marked
pub record MarksLeft {X : Type 0} (p : X → ℕ → Bool) (xs : List X) (i : ℕ) (old marks : List Bool) : Type 0 where
  pub same : length marks ≡ length old
  pub at : (n : ℕ) → n < length old → (mark_at marks n || list_any (λ (x : X). p x n) (drop i xs)) ≡ (mark_at old n || list_any (λ (x : X). p x n) xs)

pub marks_start : {X : Type 0} (p : X → ℕ → Bool) (xs : List X) (old : List Bool) → MarksLeft p xs 0 old old
marks_start p xs old = record { same = refl; at = λ n l. refl }

or_assoc : (a b c : Bool) → ((a || b) || c) ≡ (a || (b || c))
or_assoc true b c = refl
or_assoc false b c = refl

or_false : (a : Bool) → (a || false) ≡ a
or_false true = refl
or_false false = refl

or_true : (a b : Bool) → true ≡ (a || (true || b))
or_true true b = refl
or_true false b = refl

pub marks_step :
    {X : Type 0} (p : X → ℕ → Bool) (xs : List X) (i : ℕ) (d : X) (old marks more : List Bool) → i < length xs → MarksLeft p xs i old marks → AddsMarks (p (get_or xs i d)) marks more → MarksLeft p xs (i + 1) old more
marks_step {X} p xs i d old marks more l left adds =
    record {
      same = adds.same ∙ left.same;
      at = λ n bound.
          let rest : drop i xs ≡ get_or xs i d ∷ drop (i + 1) xs = drop-cons xs i d l ∙ ap (λ (j : ℕ). get_or xs i d ∷ drop j xs) (sym (add-one i)) in
          let now : mark_at more n ≡ (mark_at marks n || p (get_or xs i d) n) = adds.at n (omega (arith, left.same)) in
          ap (λ (b : Bool). b || list_any (λ (x : X). p x n) (drop (i + 1) xs)) now
          ∙ or_assoc (mark_at marks n) (p (get_or xs i d) n) (list_any (λ (x : X). p x n) (drop (i + 1) xs))
          ∙ ap (λ (ys : List X). mark_at marks n || list_any (λ (x : X). p x n) ys) (sym rest)
          ∙ left.at n bound;
    }

-- the step, of an element that the code holds
pub marks_on :
    {X : Type 0} (p : X → ℕ → Bool) (xs : List X) (i : ℕ) (d x : X) (old marks more : List Bool) → x ≡ get_or xs i d → i < length xs → MarksLeft p xs i old marks → AddsMarks (p x) marks more → MarksLeft p xs (i + 1) old more
marks_on {X} p xs i d x old marks more e l left adds = marks_step p xs i d old marks more l left (subst (λ (y : X). AddsMarks (p y) marks more) e adds)

drop_past : {X : Type 0} (xs : List X) (i : ℕ) → length xs ≤ i → drop i xs ≡ []
drop_past [] zero l = refl
drop_past [] (suc i) l = refl
drop_past (x ∷ xs) zero l = absurd (omega arith)
drop_past (x ∷ xs) (suc i) l = drop_past xs i (omega arith)

pub marks_end : {X : Type 0} (p : X → ℕ → Bool) (xs : List X) (i : ℕ) (old marks : List Bool) → length xs ≤ i → MarksLeft p xs i old marks → AddsMarks (λ (n : ℕ). list_any (λ (x : X). p x n) xs) old marks
marks_end {X} p xs i old marks l left =
    record {
      same = left.same;
      at = λ n bound. sym (or_false (mark_at marks n)) ∙ ap (λ (ys : List X). mark_at marks n || list_any (λ (x : X). p x n) ys) (sym (drop_past xs i l)) ∙ left.at n bound;
    }

-- one number is marked
pub mark_one : (marks : List Bool) (x : ℕ) → AddsMarks (λ (n : ℕ). eqb x n) marks (set marks x true)
mark_one marks x =
    record {
      same = length-set marks x true;
      at = λ n bound. elim (cases_eq n x) [
        | inl e ↦ ap (λ (k : ℕ). get_or (set marks x true) k false) e ∙ get_or-set_same marks x true false (omega arith) ∙ or_true (mark_at marks n) false ∙ ap (λ (b : Bool). mark_at marks n || b) (sym (eq-eqb x n (sym e)))
        | inr d ↦ get_or-set_other marks x n true false d ∙ sym (or_false (mark_at marks n)) ∙ ap (λ (b : Bool). mark_at marks n || b) (sym (ne_eqb x n (λ e. d (sym e))))
      ];
    }

-- nothing was marked before
pub fresh_marks : (p : ℕ → Bool) (n : ℕ) (old new : List Bool) → old ≡ replicate n false → AddsMarks p old new → (length new ≡ n) × AreMarks p new
fresh_marks p n old new fresh adds =
    let size : length old ≡ n = ap (λ (xs : List Bool). length xs) fresh ∙ length-replicate n false in (
      adds.same ∙ size,
      record {
        at = λ k bound. adds.at k (omega (arith, adds.same)) ∙ ap (λ (b : Bool). b || p k) (ap (λ (xs : List Bool). get_or xs k false) fresh ∙ get_or-replicate n k false false (omega (arith, adds.same, size)));
      },
    )

-- what passes alike is chosen and counted alike
pub chosen_alike : (p q : ℕ → Bool) (n : ℕ) → ((k : ℕ) → k < n → p k ≡ q k) → chosen_below p n ≡ chosen_below q n
chosen_alike p q zero same = refl
chosen_alike p q (suc n) same =
    (λ i. chosen_alike p q n (λ k l. same k (omega arith)) i ++ cond (p n) (n ∷ []) []) ∙ ap (λ (b : Bool). chosen_below q n ++ cond b (n ∷ []) []) (same n (omega arith))

pub count_alike : (p q : ℕ → Bool) (n : ℕ) → ((k : ℕ) → k < n → p k ≡ q k) → count_below p n ≡ count_below q n
count_alike p q zero same = refl
count_alike p q (suc n) same =
    (λ i. count_alike p q n (λ k l. same k (omega arith)) i + cond (p n) 1 0) ∙ ap (λ (b : Bool). count_below q n + cond b 1 0) (same n (omega arith))

pub chosen_is : (p : ℕ → Bool) (marks seen : List Bool) (known : ℕ) (numbers : List ℕ) → seen ≡ marks → length marks ≡ known → AreMarks p marks → numbers ≡ chosen_below (mark_at seen) (length seen) → numbers ≡ chosen_below p known
chosen_is p marks seen known numbers same size are e =
    e ∙ ap (λ (ms : List Bool). chosen_below (mark_at ms) (length ms)) same ∙ chosen_alike (mark_at marks) p (length marks) are.at ∙ ap (λ (n : ℕ). chosen_below p n) size
