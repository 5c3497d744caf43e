-- Targets that are marked: marks are taken back, and those that are left are counted.
use Rattle.std.proofs.Common.{◌≡◌, ℕ, zero, suc, ◌+◌, ◌<◌, ◌≤◌, ◌&&◌, ◌||◌, not, List, [], ◌∷◌, Bool, true, false, length, get_or, take, drop, cond, refl, sym, ap, ◌∙◌, arith, add-one, drop-cons}
use Rattle.std.specs.Prelude.{count_by}
use Rattle.std.specs.List.{list_any}
use Rattle.std.proofs.lemmas.List.{take_all}
use Rattle.std.proofs.lemmas.List.Sums.{sum_by-append, sum_by_more}
use Rattle.fleet.specs.Live.{AreMarks, chosen_below, mark_at}
use Rattle.audit.specs.Marks.{TakesMarks}

-- the marks of the elements from a place on are still to be taken back
pub record MarksTaken {X : Type 0} (p : X → ℕ → Bool) (xs : List X) (i : ℕ) (old marks : List Bool) : Type 0 where
  pub same : length marks ≡ length old
  pub at : (n : ℕ) → n < length old → (not (list_any (λ (x : X). p x n) (drop i xs)) && mark_at marks n) ≡ (not (list_any (λ (x : X). p x n) xs) && mark_at old n)

pub taken_start : {X : Type 0} (p : X → ℕ → Bool) (xs : List X) (old : List Bool) → MarksTaken p xs 0 old old
taken_start p xs old = record { same = refl; at = λ n l. refl }

taken_by : (a b m : Bool) → (not b && (not a && m)) ≡ (not (a || b) && m)
taken_by true true m = refl
taken_by true false m = refl
taken_by false b m = refl

pub taken_on :
    {X : Type 0} (p : X → ℕ → Bool) (xs : List X) (i : ℕ) (x d : X) (old marks less : List Bool) → x ≡ get_or xs i d → i < length xs → MarksTaken p xs i old marks → TakesMarks (p x) marks less → MarksTaken p xs (i + 1) old less
taken_on {X} p xs i x d old marks less e l left takes =
    record {
      same = takes.same ∙ left.same;
      at = λ n bound.
          let rest : drop i xs ≡ x ∷ drop (i + 1) xs = drop-cons xs i d l ∙ (λ j. sym e j ∷ drop (sym (add-one i) j) xs) in
          ap (λ (b : Bool). not (list_any (λ (x : X). p x n) (drop (i + 1) xs)) && b) (takes.at n (omega (arith, left.same)))
          ∙ taken_by (p x n) (list_any (λ (x : X). p x n) (drop (i + 1) xs)) (mark_at marks n)
          ∙ ap (λ (ys : List X). not (list_any (λ (x : X). p x n) ys) && mark_at marks n) (sym rest)
          ∙ left.at n bound;
    }

drop_past : {X : Type 0} (xs : List X) (i : ℕ) → length xs ≤ i → drop i xs ≡ []
drop_past [] zero l = refl
drop_past [] (suc i) l = refl
drop_past (x ∷ xs) zero l = absurd (omega arith)
drop_past (x ∷ xs) (suc i) l = drop_past xs i (omega arith)

pub taken_end : {X : Type 0} (p : X → ℕ → Bool) (xs : List X) (i : ℕ) (old marks : List Bool) → length xs ≤ i → MarksTaken p xs i old marks → TakesMarks (λ (n : ℕ). list_any (λ (x : X). p x n) xs) old marks
taken_end {X} p xs i old marks l left =
    record {
      same = left.same;
      at = λ n bound. ap (λ (ys : List X). not (list_any (λ (x : X). p x n) ys) && mark_at marks n) (sym (drop_past xs i l)) ∙ left.at n bound;
    }

-- ---- counted

one_by : (h : Bool) → 0 + cond (not h) 1 0 ≡ cond (not h && true) 1 0
one_by true = refl
one_by false = refl

none_by : (h : Bool) → ◌≡◌ {A = ℕ} 0 (cond (not h && false) 1 0)
none_by true = refl
none_by false = refl

last_by : (held : ℕ → Bool) (k : ℕ) (b : Bool) → count_by (λ (n : ℕ). not (held n)) (cond b (k ∷ []) []) ≡ cond (not (held k) && b) 1 0
last_by held k true = one_by (held k)
last_by held k false = none_by (held k)

count_left :
    (live held : ℕ → Bool) (marks : List Bool) → ((n : ℕ) → n < length marks → mark_at marks n ≡ (not (held n) && live n)) → (k : ℕ) → k ≤ length marks
    → count_by (λ (mark : Bool). mark) (take k marks) ≡ count_by (λ (n : ℕ). not (held n)) (chosen_below live k)
count_left live held marks at zero l = refl
count_left live held marks at (suc k) l =
    ap (λ (j : ℕ). count_by (λ (mark : Bool). mark) (take j marks)) (sym (add-one k))
    ∙ sum_by_more (λ (mark : Bool). cond mark 1 0) marks k false (omega arith)
    ∙ (λ i. count_left live held marks at k (omega arith) i + cond (at k (omega arith) i) 1 0)
    ∙ ap (λ (n : ℕ). count_by (λ (n : ℕ). not (held n)) (chosen_below live k) + n) (sym (last_by held k (live k)))
    ∙ sym (sum_by-append (λ (n : ℕ). cond (not (held n)) 1 0) (chosen_below live k) (cond (live k) (k ∷ []) []))

-- the marks that are left of those that live numbers have, where those of the held ones are taken back
pub left_are : (live held : ℕ → Bool) (marks left : List Bool) (known : ℕ) → length marks ≡ known → AreMarks live marks → TakesMarks held marks left → count_by (λ (mark : Bool). mark) left ≡ count_by (λ (n : ℕ). not (held n)) (chosen_below live known)
left_are live held marks left known size are takes =
    let at : (n : ℕ) → n < length left → mark_at left n ≡ (not (held n) && live n) = λ n bound. takes.at n (omega (arith, takes.same)) ∙ ap (λ (b : Bool). not (held n) && b) (are.at n (omega (arith, takes.same))) in
    ap (λ (bs : List Bool). count_by (λ (mark : Bool). mark) bs) (sym (take_all (length left) left (omega arith)))
    ∙ count_left live held left at (length left) (omega arith)
    ∙ ap (λ (n : ℕ). count_by (λ (n : ℕ). not (held n)) (chosen_below live n)) (takes.same ∙ size)
