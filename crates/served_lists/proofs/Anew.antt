-- The lists in new numbers.
use Rattle.std.proofs.Common.{◌≡◌, ℕ, ◌<◌, ◌&&◌, ◌||◌, inl, inr, Bool, true, false, List, [], ◌∷◌, Option, Some, None, refl, sym, ap, ◌∙◌, arith}
use Rattle.std.specs.Prelude.{◌==◌}
use Rattle.std.specs.List.{cons_option, filter_map}
use Rattle.std.specs.Option.{option_map_or}
use Rattle.std.proofs.lemmas.Bool.Decides.{nat_tests}
use Rattle.std.proofs.lemmas.Bool.{cases_eq, eq-eqb, ne_eqb}
use Rattle.fleet.specs.Live.{is_in}
use Rattle.fleet.specs.Orderly.{is_of}
use Rattle.fleet.specs.declared.known_target.KnownTarget.{KnownTarget}
use Rattle.served_lists.specs.Served.{slot_of}
use Rattle.served_lists.specs.Told.{Tells}
use Rattle.served_lists.specs.Anew.{IsRenewed, RenewedTells}

or_right : (a b : Bool) → b ≡ true → (a || b) ≡ true
or_right true b e = refl
or_right false b e = e

-- another number at the front is not what was looked for
skip : (x old : ℕ) (b : Bool) → (x ≡ old → ⊥) → ((x == old) || b) ≡ true → b ≡ true
skip x old b d i = sym (ap (λ (a : Bool). a || b) (ne_eqb x old d)) ∙ i

here : (x n : ℕ) (b : Bool) → x ≡ n → ((x == n) || b) ≡ true
here x n b e = ap (λ (a : Bool). a || b) (eq-eqb x n e)

kept : (o : Option ℕ) (numbers : List ℕ) (n : ℕ) → is_in numbers n ≡ true → is_in (cons_option o numbers) n ≡ true
kept None numbers n e = e
kept (Some m) numbers n e = or_right (m == n) (is_in numbers n) e

-- a target of a list has its new number in the new list
there : (number : ℕ → Option ℕ) (targets : List ℕ) (old n : ℕ) → number old ≡ Some n → is_in targets old ≡ true → is_in (filter_map number targets) n ≡ true
there number [] old n e i = absurd (cc i)
there number (x ∷ targets) old n e i = elim (cases_eq x old) [
  | inl s ↦ ap (λ (o : Option ℕ). is_in (cons_option o (filter_map number targets)) n) (ap number s ∙ e) ∙ here n n (is_in (filter_map number targets) n) refl
  | inr d ↦ kept (number x) (filter_map number targets) n (there number targets old n e (skip x old (is_in targets old) d i))
]

-- where the first target's new number is o
back_by : (number : ℕ → Option ℕ) (x : ℕ) (targets : List ℕ) (n : ℕ) → (is_in (filter_map number targets) n ≡ true → (old : ℕ) × (number old ≡ Some n) × (is_in targets old ≡ true)) → (o : Option ℕ) → number x ≡ o
    → is_in (cons_option o (filter_map number targets)) n ≡ true → (old : ℕ) × (number old ≡ Some n) × (is_in (x ∷ targets) old ≡ true)
back_by number x targets n rest None f e = let r = rest e in (r.0, r.1, or_right (x == r.0) (is_in targets r.0) r.2)
back_by number x targets n rest (Some m) f e = elim (cases_eq m n) [
  | inl s ↦ (x, f ∙ ap (λ (k : ℕ). Some k) s, here x x (is_in targets x) refl)
  | inr d ↦ let r = rest (skip m n (is_in (filter_map number targets) n) d e) in (r.0, r.1, or_right (x == r.0) (is_in targets r.0) r.2)
]

-- a number of the new list is that of a target of the list
back : (number : ℕ → Option ℕ) (targets : List ℕ) (n : ℕ) → is_in (filter_map number targets) n ≡ true → (old : ℕ) × (number old ≡ Some n) × (is_in targets old ≡ true)
back number [] n e = absurd (cc e)
back number (x ∷ targets) n e = back_by number x targets n (back number targets n) (number x) refl e

is_false : (b : Bool) → (b ≡ true → ⊥) → b ≡ false
is_false true f = absurd (f refl)
is_false false f = refl

none_case : (x k : ℕ) (b : Bool) → 0 < k → x ≡ 0 → ((x == k) && b) ≡ false
none_case x k b some none = grind (arith, nat_tests, some, none)

and_no : (a b : Bool) → b ≡ false → (a && b) ≡ false
and_no true b e = e
and_no false b e = refl

-- the same test where slot and job stay
same_test : (x y k : ℕ) (a b : Bool) → y ≡ x → b ≡ a → ((y == k) && b) ≡ ((x == k) && a)
same_test x y k a b e f = (λ i. (e i == k) && f i)

-- where the new job was o
renewed_by :
    (number was : ℕ → Option ℕ) (known renewed_known : List KnownTarget) (slots renewed_slots : List ℕ) (lists : ℕ → ℕ → List ℕ) → IsRenewed number was known renewed_known slots renewed_slots → Tells known slots lists → (k m n : ℕ) → 0 < k
    → (o : Option ℕ) → was m ≡ o → is_in (option_map_or (λ (j : ℕ). filter_map number (lists k j)) o []) n ≡ ((slot_of renewed_slots n == k) && is_of renewed_known m n)
renewed_by number was known renewed_known slots renewed_slots lists re tells k m n some None is =
    sym (elim (re.no_others n) [
      | inl z ↦ none_case (slot_of renewed_slots n) k (is_of renewed_known m n) some z
      | inr r ↦
          and_no (slot_of renewed_slots n == k) (is_of renewed_known m n) (re.jobs_stay r.0 n m r.1 ∙ ap (λ (o : Option ℕ). option_map_or (λ (j : ℕ). is_of known j r.0) o false) is)
    ])
renewed_by number was known renewed_known slots renewed_slots lists re tells k m n some (Some j) is = by (is_in (filter_map number (lists k j)) n) refl
  where
    kept_test : (old : ℕ) → number old ≡ Some n → ((slot_of renewed_slots n == k) && is_of renewed_known m n) ≡ is_in (lists k j) old
    kept_test old e =
        same_test (slot_of slots old) (slot_of renewed_slots n) k (is_of known j old) (is_of renewed_known m n) (re.slots_stay old n e)
        (re.jobs_stay old n m e ∙ ap (λ (o : Option ℕ). option_map_or (λ (i : ℕ). is_of known i old) o false) is)
        ∙ sym (tells k j old some)

    by : (b : Bool) → is_in (filter_map number (lists k j)) n ≡ b → is_in (filter_map number (lists k j)) n ≡ ((slot_of renewed_slots n == k) && is_of renewed_known m n)
    by true e = let r = back number (lists k j) n e in e ∙ sym (kept_test r.0 r.1 ∙ r.2)
    by false e = e ∙ sym (elim (re.no_others n) [
      | inl z ↦ none_case (slot_of renewed_slots n) k (is_of renewed_known m n) some z
      | inr r ↦ kept_test r.0 r.1 ∙ is_false (is_in (lists k j) r.0) (λ t. absurd (cc (e, there number (lists k j) r.0 n r.1 t)))
    ])

pub renewed_tells : RenewedTells
renewed_tells number was known renewed_known slots renewed_slots lists re tells k m n some = renewed_by number was known renewed_known slots renewed_slots lists re tells k m n some (was m) refl
