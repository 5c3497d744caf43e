-- What entering a job's list comes to.
use Rattle.std.proofs.Common.{◌≡◌, ℕ, zero, suc, ◌+◌, ◌||◌, List, [], ◌∷◌, ◌++◌, Bool, true, false, cond, eqb, length, take, refl, sym, ap, ◌∙◌, arith, append_assoc}
use Rattle.std.specs.Prelude.{not}
use Rattle.std.specs.List.{AllZip, list_any, position_or_len}
use Rattle.std.specs.Str.{bytes_eq}
use Rattle.std.proofs.lemmas.Bool.{and_from, eq-eqb}
use Rattle.std.proofs.lemmas.List.{append-nil}
use Rattle.label_sets.specs.Target.{FinalTarget, target_text}
use Rattle.fleet.specs.KnownTarget.{TargetsAreEntered, is_same_at, known_with, number_of, numbers_of, same_known, with_known}
use Rattle.fleet.specs.declared.known_target.KnownTarget.{KnownTarget}
use Rattle.fleet.proofs.OrderLemmas.{known_once}

text_same : (bytes : List ℕ) → bytes_eq bytes bytes ≡ true
text_same [] = refl
text_same (b ∷ bytes) = and_from (eqb b b) (bytes_eq bytes bytes) (eq-eqb b b refl) (text_same bytes)

itself : (k : KnownTarget) → same_known k k ≡ true
itself k = and_from (eqb k.job k.job) (bytes_eq (target_text k.target) (target_text k.target)) (eq-eqb k.job k.job refl) (text_same (target_text k.target))

later_same : (x k : KnownTarget) (known : List KnownTarget) (n m : ℕ) → m ≡ 1 + n → is_same_at (x ∷ known) k m ≡ is_same_at known k n
later_same x k known n zero e = absurd (omega arith)
later_same x k known n (suc m) e = ap (is_same_at known k) (let r : m ≡ n = omega arith in r)

-- a target has the number of a same one, new or known
number_by :
    (x k : KnownTarget) (known : List KnownTarget) (same : Bool) → same_known k x ≡ same → is_same_at (cond (list_any (same_known k) known) known (known ++ k ∷ [])) k (position_or_len (same_known k) known) ≡ true
    → is_same_at (cond (same || list_any (same_known k) known) (x ∷ known) (x ∷ (known ++ k ∷ []))) k (cond (not same) (1 + position_or_len (same_known k) known) 0) ≡ true
number_by x k known true e rest = e
number_by x k known false e rest = behind (list_any (same_known k) known) rest
  where
    behind : (some : Bool) → is_same_at (cond some known (known ++ k ∷ [])) k (position_or_len (same_known k) known) ≡ true → is_same_at (cond some (x ∷ known) (x ∷ (known ++ k ∷ []))) k (1 + position_or_len (same_known k) known) ≡ true
    behind true h = later_same x k known (position_or_len (same_known k) known) (1 + position_or_len (same_known k) known) refl ∙ h
    behind false h = later_same x k (known ++ k ∷ []) (position_or_len (same_known k) known) (1 + position_or_len (same_known k) known) refl ∙ h

number_same : (known : List KnownTarget) (k : KnownTarget) → is_same_at (with_known known k) k (number_of known k) ≡ true
number_same [] k = itself k
number_same (x ∷ known) k = number_by x k known (same_known k x) refl (number_same known k)

-- it stays where more targets are known
same_front : (known more : List KnownTarget) (k : KnownTarget) (n : ℕ) → is_same_at known k n ≡ true → is_same_at (known ++ more) k n ≡ true
same_front [] more k n e = cc
same_front (x ∷ known) more k zero e = e
same_front (x ∷ known) more k (suc n) e = same_front known more k n e

with_by : (some : Bool) (known : List KnownTarget) (k other : KnownTarget) (n : ℕ) → is_same_at known k n ≡ true → is_same_at (cond some known (known ++ other ∷ [])) k n ≡ true
with_by true known k other n e = e
with_by false known k other n e = same_front known (other ∷ []) k n e

same_with : (known : List KnownTarget) (job : ℕ) (targets : List FinalTarget) (k : KnownTarget) (n : ℕ) → is_same_at known k n ≡ true → is_same_at (known_with known job targets) k n ≡ true
same_with known job [] k n e = e
same_with known job (t ∷ targets) k n e =
    let entered : KnownTarget = record { job = job; target = t } in
    same_with (with_known known entered) job targets k n (with_by (list_any (same_known entered) known) known k entered n e)

-- the first ones stay where one more is known
still_first : (first known more : List KnownTarget) → take (length first) known ≡ first → take (length first) (known ++ more) ≡ first
still_first [] known more e = refl
still_first (x ∷ first) [] more e = absurd (cc e)
still_first (x ∷ first) (y ∷ known) more e =
    let here : y ≡ x = cc e in
    let rest : take (length first) known ≡ first = cc e in
    ap (λ (ks : List KnownTarget). y ∷ ks) (still_first first known more rest) ∙ ap (λ (k : KnownTarget). k ∷ first) here

first_by : (some : Bool) (first known : List KnownTarget) (k : KnownTarget) → take (length first) known ≡ first → take (length first) (cond some known (known ++ k ∷ [])) ≡ first
first_by true first known k e = e
first_by false first known k e = still_first first known (k ∷ []) e

pub first_with : (first known : List KnownTarget) (k : KnownTarget) → take (length first) known ≡ first → take (length first) (with_known known k) ≡ first
first_with first known k e = first_by (list_any (same_known k) known) first known k e

-- those that were known stay in front
record Front (known entered : List KnownTarget) : Type 0 where
  pub more : List KnownTarget
  pub is : entered ≡ known ++ more

front_by : (some : Bool) (known : List KnownTarget) (k : KnownTarget) → Front known (cond some known (known ++ k ∷ []))
front_by true known k = record { more = []; is = sym (append-nil known) }
front_by false known k = record { more = k ∷ []; is = refl }

front : (known : List KnownTarget) (job : ℕ) (targets : List FinalTarget) → Front known (known_with known job targets)
front known job [] = record { more = []; is = sym (append-nil known) }
front known job (t ∷ targets) =
    let k : KnownTarget = record { job = job; target = t } in
    let first = front_by (list_any (same_known k) known) known k in
    let rest = front (with_known known k) job targets in
    record { more = first.more ++ rest.more; is = rest.is ∙ ap (λ (ks : List KnownTarget). ks ++ rest.more) first.is ∙ append_assoc known first.more rest.more }

same_numbers :
    (known : List KnownTarget) (job : ℕ) (targets : List FinalTarget) → AllZip (λ (target : FinalTarget) (number : ℕ). is_same_at (known_with known job targets) (record { job = job; target = target }) number ≡ true) targets (numbers_of known job targets)
same_numbers known job [] = tt
same_numbers known job (t ∷ targets) =
    let k : KnownTarget = record { job = job; target = t } in
    (same_with (with_known known k) job targets k (number_of known k) (number_same known k), same_numbers (with_known known k) job targets)

pub targets_are_entered : TargetsAreEntered
targets_are_entered known job targets =
    let before = front known job targets in
    record { more = before.more; front = before.is; once = known_once known job targets; numbers = same_numbers known job targets }
