-- Numbers that pass, counted: the new numbers of those that go on ascend, and each stands at its place.
use Rattle.std.proofs.Common.{◌≡◌, ℕ, zero, suc, ◌+◌, ◌<◌, ◌≤◌, List, [], ◌∷◌, ◌++◌, Bool, true, false, Option, Some, None, cond, length, refl, sym, ap, ◌∙◌, inl, inr, arith, add-one, length-append}
use Rattle.std.specs.Prelude.{slice_get}
use Rattle.std.specs.List.{cons_option, filter_map}
use Rattle.std.proofs.lemmas.Bool.{cases_eq, cases_lt}
use Rattle.std.proofs.lemmas.List.Elements.{filter_map-append}
use Rattle.fleet.specs.Live.{chosen_below, count_below}
use Rattle.fleet_renewal.specs.Renewed.{new_number}
use Rattle.fleet_renewal.proofs.Gets.{none_some, some_same}

pub count_rises : (p : ℕ → Bool) (n m : ℕ) → n ≤ m → count_below p n ≤ count_below p m
count_rises p zero zero l = omega arith
count_rises p (suc n) zero l = absurd (omega arith)
count_rises p n (suc m) l = elim (cases_eq n (suc m)) [
  | inl e ↦ omega (arith, ap (count_below p) e)
  | inr d ↦ omega (arith, count_rises p n m (omega arith))
]

one_more : (b : Bool) (n : ℕ) → b ≡ true → n + cond b 1 0 ≡ n + 1
one_more true n e = refl
one_more false n e = cc

pub count_here : (p : ℕ → Bool) (n : ℕ) → p n ≡ true → count_below p (suc n) ≡ count_below p n + 1
count_here p n e = one_more (p n) (count_below p n) e

pub count_within : (p : ℕ → Bool) (n m : ℕ) → n < m → p n ≡ true → count_below p n < count_below p m
count_within p n m l e = omega (arith, count_here p n e, count_rises p (suc n) m (omega arith))

few_by : (b : Bool) (c n : ℕ) → c ≤ n → c + cond b 1 0 ≤ suc n
few_by true c n l = omega (arith, l)
few_by false c n l = omega (arith, l)

pub count_few : (p : ℕ → Bool) (n : ℕ) → count_below p n ≤ n
count_few p zero = omega arith
count_few p (suc n) = few_by (p n) (count_below p n) n (count_few p n)

-- of those that pass, each has its own count
pub count_apart : (p : ℕ → Bool) (n m : ℕ) → p n ≡ true → p m ≡ true → count_below p n ≡ count_below p m → n ≡ m
count_apart p n m here there e = elim (cases_eq n m) [
  | inl s ↦ s
  | inr d ↦ elim (cases_lt n m) [ inl l ↦ absurd (omega (arith, count_within p n m l here)) | inr g ↦ absurd (omega (arith, count_within p m n (omega arith) there)) ]
]

-- what a new number says
pub record Numbered (p : ℕ → Bool) (n number : ℕ) : Type 0 where
  pub passes : p n ≡ true
  pub counts : count_below p n ≡ number

numbered_by : (p : ℕ → Bool) (n number : ℕ) (b : Bool) → p n ≡ b → cond b (Some (count_below p n)) None ≡ Some number → Numbered p n number
numbered_by p n number true was e = record { passes = was; counts = some_same (count_below p n) number e }
numbered_by p n number false was e = none_some number e

pub numbered : (p : ℕ → Bool) (n number : ℕ) → new_number p n ≡ Some number → Numbered p n number
numbered p n number e = numbered_by p n number (p n) refl e

pub numbers_here : (p : ℕ → Bool) (n : ℕ) → p n ≡ true → new_number p n ≡ Some (count_below p n)
numbers_here p n e = ap (λ (b : Bool). (let o : Option ℕ = cond b (Some (count_below p n)) None in o)) e

-- the places of what is made of the numbers that pass

made_more : {X : Type 0} (f : ℕ → Option X) (n : ℕ) (b : Bool) (o : Option X) → f n ≡ o → (b ≡ true → (x : X) × (o ≡ Some x)) → length (filter_map f (cond b (n ∷ []) [])) ≡ cond b 1 0
made_more f n false o was some = refl
made_more f n true None was some = (let found = some refl in none_some found.0 found.1)
made_more f n true (Some x) was some = ap (λ o. length (cons_option o [])) was

pub made_count : {X : Type 0} (p : ℕ → Bool) (f : ℕ → Option X) (n : ℕ) → ((k : ℕ) → k < n → p k ≡ true → (x : X) × (f k ≡ Some x)) → length (filter_map f (chosen_below p n)) ≡ count_below p n
made_count p f zero some = refl
made_count p f (suc n) some =
    let split = ap length (filter_map-append f (chosen_below p n) (cond (p n) (n ∷ []) [])) ∙ length-append (filter_map f (chosen_below p n)) (filter_map f (cond (p n) (n ∷ []) [])) in
    let last = made_more f n (p n) (f n) refl (λ e. some n (omega arith) e) in
    let before = made_count p f n (λ k l e. some k (omega arith) e) in
    omega (arith, split, last, before)

at_front : {X : Type 0} (xs ys : List X) (k : ℕ) → k < length xs → slice_get (xs ++ ys) k ≡ slice_get xs k
at_front [] ys k l = absurd (omega arith)
at_front (x ∷ xs) ys zero l = refl
at_front (x ∷ xs) ys (suc k) l = at_front xs ys k (omega arith)

at_seam : {X : Type 0} (xs ys : List X) (k : ℕ) → k ≡ length xs → slice_get (xs ++ ys) k ≡ slice_get ys 0
at_seam [] ys zero e = refl
at_seam [] ys (suc k) e = absurd (omega arith)
at_seam (x ∷ xs) ys zero e = absurd (omega arith)
at_seam (x ∷ xs) ys (suc k) e = at_seam xs ys k (omega arith)

seam_by : {X : Type 0} (f : ℕ → Option X) (n : ℕ) (b : Bool) (x : X) → b ≡ true → f n ≡ Some x → slice_get (filter_map f (cond b (n ∷ []) [])) 0 ≡ f n
seam_by f n false x e is = cc
seam_by f n true x e is = ap (λ o. slice_get (cons_option o []) 0) is ∙ sym is

pub made_at : {X : Type 0} (p : ℕ → Bool) (f : ℕ → Option X) (n : ℕ) → ((k : ℕ) → k < n → p k ≡ true → (x : X) × (f k ≡ Some x)) → (k : ℕ) → k < n → p k ≡ true → slice_get (filter_map f (chosen_below p n)) (count_below p k) ≡ f k
made_at p f zero some k l e = absurd (omega arith)
made_at p f (suc n) some k l e =
    let before : (i : ℕ) → i < n → p i ≡ true → (x : _) × (f i ≡ Some x) = λ i l e. some i (omega arith) e in
    let size = made_count p f n before in
    let split = ap (λ xs. slice_get xs (count_below p k)) (filter_map-append f (chosen_below p n) (cond (p n) (n ∷ []) [])) in
    elim (cases_eq k n) [
      | inl s ↦
          let found = some k l e in
          split
          ∙ at_seam (filter_map f (chosen_below p n)) (filter_map f (cond (p n) (n ∷ []) [])) (count_below p k) (ap (count_below p) s ∙ sym size)
          ∙ seam_by f n (p n) found.0 (ap p (sym s) ∙ e) (ap f (sym s) ∙ found.1)
          ∙ ap f (sym s)
      | inr d ↦
          let less : k < n = omega arith in
          split ∙ at_front (filter_map f (chosen_below p n)) (filter_map f (cond (p n) (n ∷ []) [])) (count_below p k) (omega (arith, size, count_within p k n less e)) ∙ made_at p f n before k less e
    ]

-- of the new numbers no more pass one test than of the old ones another, where each that passes did
fewer_by : (b : Bool) (q r : ℕ → Bool) (c n : ℕ) → (b ≡ true → q c ≡ true → r n ≡ true) → count_below q c ≤ count_below r n → count_below q (c + cond b 1 0) ≤ count_below r n + cond (r n) 1 0
fewer_by false q r c n was less = (let same : c + 0 ≡ c = omega arith in omega (arith, less, ap (count_below q) same))
fewer_by true q r c n was less = one (q c) refl
  where
    size : count_below q (c + 1) ≡ count_below q c + cond (q c) 1 0
    size = ap (count_below q) (add-one c)

    one : (d : Bool) → q c ≡ d → count_below q (c + 1) ≤ count_below r n + cond (r n) 1 0
    one true e = omega (arith, size, less, ap (λ (b : Bool). (let k : ℕ = cond b 1 0 in k)) e, ap (λ (b : Bool). (let k : ℕ = cond b 1 0 in k)) (was refl e))
    one false e = omega (arith, size, less, ap (λ (b : Bool). (let k : ℕ = cond b 1 0 in k)) e)

pub count_fewer : (p q r : ℕ → Bool) (n : ℕ) → ((k : ℕ) → k < n → p k ≡ true → q (count_below p k) ≡ true → r k ≡ true) → count_below q (count_below p n) ≤ count_below r n
count_fewer p q r zero was = omega arith
count_fewer p q r (suc n) was = fewer_by (p n) q r (count_below p n) n (λ b e. was n (omega arith) b e) (count_fewer p q r n (λ k l b e. was k (omega arith) b e))
