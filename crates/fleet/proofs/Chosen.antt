-- The numbers below one that pass: each passes and is below it, and they ascend.
use Rattle.std.proofs.Common.{◌≡◌, ℕ, zero, suc, ◌<◌, ◌≤◌, List, [], ◌∷◌, ◌++◌, Bool, true, false, All, cond, count_by, eqb, refl, sym, ap, subst, ◌∙◌, inl, inr, arith}
use Rattle.std.specs.Prelude.{AllPairs, Contains}
use Rattle.std.proofs.lemmas.List.{append-nil}
use Rattle.std.proofs.lemmas.Bool.{cases_eq, eq-eqb, ne_eqb}
use Rattle.std.proofs.lemmas.List.Elements.{All-nil, All-push, Contains-append_left, Contains-append_right}
use Rattle.std.proofs.lemmas.List.Sums.{sum_by-append, sum_by-cons}
use Rattle.std.proofs.lemmas.List.Quantifiers.{all_pairs_push}
use Rattle.fleet.specs.Live.{chosen_below}

all_more : (b : Bool) (n : ℕ) (xs : List ℕ) → All (λ t. t < n) xs → All (λ t. t < suc n) (xs ++ cond b (n ∷ []) [])
all_more true n xs all = All-push (λ t. t < suc n) xs n (λ k d l. omega (arith, all k d l)) (omega arith)
all_more false n xs all = subst (λ (ys : List ℕ). All (λ t. t < suc n) ys) (sym (append-nil xs)) (λ k d l. omega (arith, all k d l))

pub chosen_all : (p : ℕ → Bool) (n : ℕ) → All (λ t. t < n) (chosen_below p n)
chosen_all p zero = All-nil (λ t. t < 0)
chosen_all p (suc n) = all_more (p n) n (chosen_below p n) (chosen_all p n)

pass_more : (p : ℕ → Bool) (b : Bool) (n : ℕ) (xs : List ℕ) → p n ≡ b → All (λ t. p t ≡ true) xs → All (λ t. p t ≡ true) (xs ++ cond b (n ∷ []) [])
pass_more p true n xs e all = All-push (λ t. p t ≡ true) xs n all e
pass_more p false n xs e all = subst (λ (ys : List ℕ). All (λ t. p t ≡ true) ys) (sym (append-nil xs)) all

pub chosen_pass : (p : ℕ → Bool) (n : ℕ) → All (λ t. p t ≡ true) (chosen_below p n)
chosen_pass p zero = All-nil (λ t. p t ≡ true)
chosen_pass p (suc n) = pass_more p (p n) n (chosen_below p n) refl (chosen_pass p n)

ascend_more : (c : Bool) (n : ℕ) (xs : List ℕ) → All (λ t. t < n) xs → AllPairs (λ (a b : ℕ). a < b) xs → AllPairs (λ (a b : ℕ). a < b) (xs ++ cond c (n ∷ []) [])
ascend_more true n xs below asc = all_pairs_push (λ (a b : ℕ). a < b) xs n asc below
ascend_more false n xs below asc = subst (λ (ys : List ℕ). AllPairs (λ (a b : ℕ). a < b) ys) (sym (append-nil xs)) asc

pub chosen_ascend : (p : ℕ → Bool) (n : ℕ) → AllPairs (λ (a b : ℕ). a < b) (chosen_below p n)
chosen_ascend p zero = λ i j d l less. absurd (omega arith)
chosen_ascend p (suc n) = ascend_more (p n) n (chosen_below p n) (chosen_all p n) (chosen_ascend p n)

-- each number is chosen at most once
once_more : (b : Bool) (n t : ℕ) (xs : List ℕ) → (n ≤ t → count_by (λ (x : ℕ). eqb x t) xs ≡ 0) × (count_by (λ (x : ℕ). eqb x t) xs ≤ 1) → (suc n ≤ t → count_by (λ (x : ℕ). eqb x t) (xs ++ cond b (n ∷ []) []) ≡ 0) × (count_by (λ (x : ℕ). eqb x t) (xs ++ cond b (n ∷ []) []) ≤ 1)
once_more false n t xs h = rw (append-nil xs) (λ l. h.0 (omega arith), h.1)
once_more true n t xs h =
    let more = sum_by-append (λ (x : ℕ). cond (eqb x t) 1 0) xs (n ∷ []) in
    let one = sum_by-cons (λ (x : ℕ). cond (eqb x t) 1 0) n [] in
    elim (cases_eq n t) [
      | inl e ↦ (λ l. absurd (omega arith), omega (arith, more, one, h.0 (omega arith), ap (λ (c : Bool). (let r : ℕ = cond c 1 0 in r)) (eq-eqb n t e)))
      | inr d ↦ (λ l. omega (arith, more, one, h.0 (omega arith), ap (λ (c : Bool). (let r : ℕ = cond c 1 0 in r)) (ne_eqb n t d)), omega (arith, more, one, h.1, ap (λ (c : Bool). (let r : ℕ = cond c 1 0 in r)) (ne_eqb n t d)))
    ]

pub chosen_once : (p : ℕ → Bool) (n t : ℕ) → (n ≤ t → count_by (λ (x : ℕ). eqb x t) (chosen_below p n) ≡ 0) × (count_by (λ (x : ℕ). eqb x t) (chosen_below p n) ≤ 1)
chosen_once p zero t = (λ l. refl, omega arith)
chosen_once p (suc n) t = once_more (p n) n t (chosen_below p n) (chosen_once p n t)

chosen_here : (c : Bool) (n number : ℕ) → c ≡ true → n ≡ number → Contains (cond c (n ∷ []) []) number
chosen_here true n number e is = (0, omega arith, is)
chosen_here false n number e is = cc

-- each number below that passes is chosen
pub chosen_has : (p : ℕ → Bool) (n number : ℕ) → number < n → p number ≡ true → Contains (chosen_below p n) number
chosen_has p zero number l e = absurd (omega arith)
chosen_has p (suc n) number l e = elim (cases_eq n number) [
  | inl s ↦ Contains-append_right (chosen_below p n) (cond (p n) (n ∷ []) []) number (chosen_here (p n) n number (ap p s ∙ e) s)
  | inr d ↦ Contains-append_left (chosen_below p n) (cond (p n) (n ∷ []) []) number (chosen_has p n number (omega arith) e)
]
