-- What is said to be a duration is spelled as one, and what is spelled so is said.
use Rattle.std.proofs.Common.{◌≡◌, ◌∙◌, ℕ, suc, ◌+◌, ◌-◌, ◌*◌, ◌≤◌, Bool, true, false, not, cond, ◌&&◌, List, [], ◌∷◌, ◌++◌, take, Some, None, inl, inr, refl, sym, ap, subst, true≢false, arith}
use Rattle.std.specs.Prelude.{◌≢◌, ◌↔◌, ◌⊎◌, codes}
use Rattle.std.proofs.lemmas.Slice.Eq.{bytes_eq-Decides}
use Rattle.std.specs.List.{before_first, position_or_len}
use Rattle.std.specs.Str.{bytes_eq}
use Rattle.service_settings.specs.declared.duration.Unit.{Unit}
use Rattle.service_settings.specs.declared.duration.Unit.TheVariants.{Year, Week, Day, Hour, Minute, Second, Millisecond}
use Rattle.service_settings.specs.declared.duration.TheConstants.{LONGEST_DURATION, UNITS}
use Rattle.service_settings.specs.Digits.{is_digit, number_from, past_digits, past_word, begins_with_digit, up_to}
use Rattle.service_settings.specs.Durations.{unit_name, unit_length, has_part, sum_from, parts_said, duration_said}
use Rattle.service_settings.specs.Spelled.{are_digits, IsPart, AreParts, IsDuration}
use Rattle.service_settings.proofs.Numbers.{is_same}

cases : (v : Bool) → (v ≡ true) ⊎ (v ≡ false)
cases true = inl refl
cases false = inr refl

both : (v w : Bool) → (v && w) ≡ true → (v ≡ true) × (w ≡ true)
both true w e = (refl, e)
both false w e = cc

-- ---- digits and words at the front

abbrev word_at : List ℕ → List ℕ
word_at [] = []
word_at (b ∷ bs) = cond (is_digit b) [] (b ∷ word_at bs)

abbrev digits_at : List ℕ → List ℕ
digits_at [] = []
digits_at (b ∷ bs) = cond (is_digit b) (b ∷ digits_at bs) []

one_plus : (n : ℕ) → 1 + n ≡ suc n
one_plus n = omega arith

word_step : (v : Bool) (n b : ℕ) (bs w : List ℕ) → take n bs ≡ w → take (cond (not v) (1 + n) 0) (b ∷ bs) ≡ cond v [] (b ∷ w)
word_step true n b bs w e = refl
word_step false n b bs w e = rw (one_plus n) (ap (λ x. b ∷ x) e)

word_is : (t : List ℕ) → before_first is_digit t ≡ word_at t
word_is [] = refl
word_is (b ∷ bs) = word_step (is_digit b) (position_or_len is_digit bs) b bs (word_at bs) (word_is bs)

digits_step : (v : Bool) (b : ℕ) (bs front back : List ℕ) → bs ≡ front ++ back → b ∷ bs ≡ cond v (b ∷ front) [] ++ cond v back (b ∷ bs)
digits_step true b bs front back e = ap (λ x. b ∷ x) e
digits_step false b bs front back e = refl

digits_split : (t : List ℕ) → t ≡ digits_at t ++ past_digits t
digits_split [] = refl
digits_split (b ∷ bs) = digits_step (is_digit b) b bs (digits_at bs) (past_digits bs) (digits_split bs)

words_step : (v : Bool) (b : ℕ) (bs front back : List ℕ) → bs ≡ front ++ back → b ∷ bs ≡ cond v [] (b ∷ front) ++ cond v (b ∷ bs) back
words_step true b bs front back e = refl
words_step false b bs front back e = ap (λ x. b ∷ x) e

word_split : (t : List ℕ) → t ≡ word_at t ++ past_word t
word_split [] = refl
word_split (b ∷ bs) = words_step (is_digit b) b bs (word_at bs) (past_word bs) (word_split bs)

number_split : (n : ℕ) (t : List ℕ) → number_from n t ≡ number_from n (digits_at t)
number_split n [] = refl
number_split n (b ∷ bs) = elim (cases (is_digit b)) [
  | inl is ↦ simp is (number_split (10 * n + (b - 48)) bs)
  | inr isnt ↦ simp isnt refl
]

digits_are : (t : List ℕ) → are_digits (digits_at t) ≡ true
digits_are [] = refl
digits_are (b ∷ bs) = elim (cases (is_digit b)) [
  | inl is ↦ simp is (digits_are bs)
  | inr isnt ↦ simp isnt refl
]

digits_begin : (t : List ℕ) → begins_with_digit t ≡ true → begins_with_digit (digits_at t) ≡ true
digits_begin [] e = e
digits_begin (b ∷ bs) e = simp e refl

-- ---- what is put together

past_none : (t : List ℕ) → begins_with_digit t ≡ false → past_digits t ≡ t
past_none [] e = refl
past_none (b ∷ bs) e = rw e refl

number_none : (n : ℕ) (t : List ℕ) → begins_with_digit t ≡ false → number_from n t ≡ n
number_none n [] e = refl
number_none n (b ∷ bs) e = rw e refl

past_all : (ds t : List ℕ) → are_digits ds ≡ true → begins_with_digit t ≡ false → past_digits (ds ++ t) ≡ t
past_all [] t all none = past_none t none
past_all (b ∷ bs) t all none = let parts = both (is_digit b) (are_digits bs) all in rw (parts.0) (past_all bs t parts.1 none)

number_all : (n : ℕ) (ds t : List ℕ) → are_digits ds ≡ true → begins_with_digit t ≡ false → number_from n (ds ++ t) ≡ number_from n ds
number_all n [] t all none = number_none n t none
number_all n (b ∷ bs) t all none = let parts = both (is_digit b) (are_digits bs) all in rw (parts.0) (number_all (10 * n + (b - 48)) bs t parts.1 none)

begins_all : (ds t : List ℕ) → begins_with_digit ds ≡ true → begins_with_digit (ds ++ t) ≡ true
begins_all [] t e = cc
begins_all (b ∷ bs) t e = e

name_begins : (u : Unit) (t : List ℕ) → begins_with_digit (unit_name u ++ t) ≡ false
name_begins Year t = refl
name_begins Week t = refl
name_begins Day t = refl
name_begins Hour t = refl
name_begins Minute t = refl
name_begins Second t = refl
name_begins Millisecond t = refl

name_word : (u : Unit) (t : List ℕ) → word_at t ≡ [] → word_at (unit_name u ++ t) ≡ unit_name u
name_word Year t e = ap (λ x. codes "y" ++ x) e
name_word Week t e = ap (λ x. codes "w" ++ x) e
name_word Day t e = ap (λ x. codes "d" ++ x) e
name_word Hour t e = ap (λ x. codes "h" ++ x) e
name_word Minute t e = ap (λ x. codes "m" ++ x) e
name_word Second t e = ap (λ x. codes "s" ++ x) e
name_word Millisecond t e = ap (λ x. codes "ms" ++ x) e

name_past : (u : Unit) (t : List ℕ) → past_word (unit_name u ++ t) ≡ past_word t
name_past Year t = refl
name_past Week t = refl
name_past Day t = refl
name_past Hour t = refl
name_past Minute t = refl
name_past Second t = refl
name_past Millisecond t = refl

-- ---- a part at the front

-- where a word has to stand
abbrev Ends : List ℕ → Type 0
Ends t = (t ≡ []) ⊎ (begins_with_digit t ≡ true)

end_word : (t : List ℕ) → Ends t → word_at t ≡ []
end_word [] e = refl
end_word (b ∷ bs) (inl e) = cc
end_word (b ∷ bs) (inr e) = rw e refl

end_past : (t : List ℕ) → Ends t → past_word t ≡ t
end_past [] e = refl
end_past (b ∷ bs) (inl e) = cc
end_past (b ∷ bs) (inr e) = rw e refl

part_begins : (u : Unit) (t rest : List ℕ) (k : ℕ) → IsPart u t rest k → begins_with_digit t ≡ true
part_begins u t rest k part = ap begins_with_digit part.spelled ∙ begins_all part.digits (unit_name u ++ rest) part.some

part_past : (u : Unit) (t rest : List ℕ) (k : ℕ) → IsPart u t rest k → past_digits t ≡ unit_name u ++ rest
part_past u t rest k part = ap past_digits part.spelled ∙ past_all part.digits (unit_name u ++ rest) part.all (name_begins u rest)

part_number : (u : Unit) (t rest : List ℕ) (k : ℕ) (part : IsPart u t rest k) → number_from 0 t ≡ number_from 0 part.digits
part_number u t rest k part = ap (number_from 0) part.spelled ∙ number_all 0 part.digits (unit_name u ++ rest) part.all (name_begins u rest)

part_word : (u : Unit) (t rest : List ℕ) (k : ℕ) → IsPart u t rest k → Ends rest → before_first is_digit (past_digits t) ≡ unit_name u
part_word u t rest k part end = ap (before_first is_digit) (part_past u t rest k part) ∙ word_is (unit_name u ++ rest) ∙ name_word u rest (end_word rest end)

part_behind : (u : Unit) (t rest : List ℕ) (k : ℕ) → IsPart u t rest k → Ends rest → past_word (past_digits t) ≡ rest
part_behind u t rest k part end = ap past_word (part_past u t rest k part) ∙ name_past u rest ∙ end_past rest end

has_at : (u v : Unit) (t rest : List ℕ) (k : ℕ) → IsPart u t rest k → Ends rest → has_part v t ≡ bytes_eq (unit_name u) (unit_name v)
has_at u v t rest k part end =
    ap (λ b. b && bytes_eq (before_first is_digit (past_digits t)) (unit_name v)) (part_begins u t rest k part)
    ∙ ap (λ w. bytes_eq w (unit_name v)) (part_word u t rest k part end)

same_name : (u : Unit) → bytes_eq (unit_name u) (unit_name u) ≡ true
same_name Year = refl
same_name Week = refl
same_name Day = refl
same_name Hour = refl
same_name Minute = refl
same_name Second = refl
same_name Millisecond = refl

parts_end : (units : List Unit) (t : List ℕ) (m : ℕ) → AreParts units t m → Ends t
parts_end [] t m parts = inl parts.0
parts_end (u ∷ units) t m (inl parts) = parts_end units t m parts
parts_end (u ∷ units) t m (inr parts) = inr (part_begins u t parts.0 parts.1 parts.3)

-- ---- units that differ

abbrev is_new : Unit → List Unit → Bool
is_new u [] = true
is_new u (v ∷ units) = not (bytes_eq (unit_name v) (unit_name u)) && is_new u units

abbrev distinct : List Unit → Bool
distinct [] = true
distinct (u ∷ units) = is_new u units && distinct units

flipped : (b : Bool) → not b ≡ true → b ≡ false
flipped true e = cc
flipped false e = refl

no_part : (u : Unit) (units : List Unit) (t : List ℕ) (m : ℕ) → is_new u units ≡ true → AreParts units t m → has_part u t ≡ false
no_part u [] t m new parts = ap (has_part u) parts.0
no_part u (v ∷ units) t m new (inl parts) = no_part u units t m ((both (not (bytes_eq (unit_name v) (unit_name u))) (is_new u units) new).1) parts
no_part u (v ∷ units) t m new (inr parts) =
    has_at v u t parts.0 parts.1 parts.3 (parts_end units parts.0 parts.2 parts.4)
    ∙ flipped (bytes_eq (unit_name v) (unit_name u)) ((both (not (bytes_eq (unit_name v) (unit_name u))) (is_new u units) new).0)

-- ---- what is spelled is said

few_up_to : (most n : ℕ) → n ≤ most → up_to most n ≡ Some n
few_up_to most n few = grind (arith, few)

is_few : (most n m : ℕ) → up_to most n ≡ Some m → m ≤ most
is_few most n m some = grind (arith, some)

complete : (sum : ℕ) (units : List Unit) (t : List ℕ) (m : ℕ) → distinct units ≡ true → sum + m ≤ LONGEST_DURATION → AreParts units t m → sum_from sum units t ≡ Some (sum + m)
complete sum [] t m new few parts =
    let same : sum ≡ sum + m = omega (arith, parts.1) in
    ap (sum_from sum []) parts.0 ∙ few_up_to LONGEST_DURATION sum (omega (arith, few)) ∙ ap Some same
complete sum (u ∷ units) t m new few (inl parts) =
    let apart = both (is_new u units) (distinct units) new in
    let none = no_part u units t m apart.0 parts in
    let same : sum + 0 + m ≡ sum + m = omega arith in
    ap (λ b. sum_from (sum + cond b (number_from 0 t * unit_length u) 0) units (cond b (past_word (past_digits t)) t)) none
    ∙ complete (sum + 0) units t m apart.1 (omega (arith, few)) parts
    ∙ ap Some same
complete sum (u ∷ units) t m new few (inr parts) =
    let apart = both (is_new u units) (distinct units) new in
    let end = parts_end units parts.0 parts.2 parts.4 in
    let has = has_at u u t parts.0 parts.1 parts.3 end ∙ same_name u in
    let long : number_from 0 t * unit_length u ≡ parts.1 = ap (λ n. n * unit_length u) (part_number u t parts.0 parts.1 parts.3) ∙ sym (parts.3.long) in
    let same : sum + parts.1 + parts.2 ≡ sum + m = omega (arith, parts.5) in
    ap (λ b. sum_from (sum + cond b (number_from 0 t * unit_length u) 0) units (cond b (past_word (past_digits t)) t)) has
    ∙ ap (λ k. sum_from (sum + k) units (past_word (past_digits t))) long
    ∙ ap (sum_from (sum + parts.1) units) (part_behind u t parts.0 parts.1 parts.3 end)
    ∙ complete (sum + parts.1) units parts.0 parts.2 apart.1 (omega (arith, few, parts.5)) parts.4
    ∙ ap Some same

-- ---- what is said is spelled

bytes_same : (a b : List ℕ) → bytes_eq a b ≡ true → a ≡ b
bytes_same a b e = (bytes_eq-Decides a b).0 e

-- the sum of the parts is what is said beyond the sum before
pub record IsSum (sum : ℕ) (units : List Unit) (t : List ℕ) (n : ℕ) : Type 0 where
  pub rest : ℕ
  pub parts : AreParts units t rest
  pub joined : n ≡ sum + rest
  pub few : n ≤ LONGEST_DURATION

sum_end : (v : Bool) (sum : ℕ) (t : List ℕ) (n : ℕ) → bytes_eq t [] ≡ v → cond v (up_to LONGEST_DURATION sum) None ≡ Some n → IsSum sum [] t n
sum_end true sum t n empty e = record {
  rest = 0;
  parts = (bytes_same t [] empty, refl);
  joined = omega (arith, is_same LONGEST_DURATION sum n e);
  few = is_few LONGEST_DURATION sum n e;
}
sum_end false sum t n empty e = cc

sum_step : (v : Bool) (sum : ℕ) (u : Unit) (units : List Unit) (t : List ℕ) (n : ℕ) → ((s : ℕ) (x : List ℕ) → sum_from s units x ≡ Some n → IsSum s units x n) → has_part u t ≡ v
    → sum_from (sum + cond v (number_from 0 t * unit_length u) 0) units (cond v (past_word (past_digits t)) t) ≡ Some n → IsSum sum (u ∷ units) t n
sum_step true sum u units t n rest_is has e =
    let test = both (begins_with_digit t) (bytes_eq (before_first is_digit (past_digits t)) (unit_name u)) has in
    let k = number_from 0 t * unit_length u in
    let rest = past_word (past_digits t) in
    let more = rest_is (sum + k) rest e in
    let word : word_at (past_digits t) ≡ unit_name u = sym (word_is (past_digits t)) ∙ bytes_same (before_first is_digit (past_digits t)) (unit_name u) test.1 in
    let part : IsPart u t rest k = record {
      digits = digits_at t;
      some = digits_begin t test.0;
      all = digits_are t;
      spelled = digits_split t ∙ ap (λ x. digits_at t ++ x) (word_split (past_digits t) ∙ ap (λ w. w ++ rest) word);
      long = ap (λ d. d * unit_length u) (number_split 0 t);
    } in
    record {
      rest = k + more.rest;
      parts = inr (rest, k, more.rest, part, more.parts, refl);
      joined = omega (arith, more.joined);
      few = more.few;
    }
sum_step false sum u units t n rest_is has e =
    let more = rest_is (sum + 0) t e in
    record { rest = more.rest; parts = inl more.parts; joined = omega (arith, more.joined); few = more.few }

sound : (sum : ℕ) (units : List Unit) (t : List ℕ) (n : ℕ) → sum_from sum units t ≡ Some n → IsSum sum units t n
sound sum [] t n e = sum_end (bytes_eq t []) sum t n refl e
sound sum (u ∷ units) t n e = sum_step (has_part u t) sum u units t n (λ s x is. sound s units x n is) refl e

-- ---- both

said_of : (v w : Bool) (t : List ℕ) (n : ℕ) → bytes_eq t [] ≡ v → bytes_eq t (codes "0") ≡ w → cond v None (cond w (Some 0) (sum_from 0 UNITS t)) ≡ Some n → IsDuration t n
said_of true w t n empty zero e = cc
said_of false true t n empty zero e =
    let is_zero : 0 ≡ n = cc in
    record {
      some = λ same. true≢false (ap (λ (x : List ℕ). bytes_eq x []) (sym same) ∙ empty);
      spelled = inl (bytes_same t (codes "0") zero, sym is_zero);
      within = omega (arith, is_zero);
    }
said_of false false t n empty zero e =
    let sum = sound 0 UNITS t n e in
    let same : sum.rest ≡ n = omega (arith, sum.joined) in
    record {
      some = λ same. true≢false (ap (λ (x : List ℕ). bytes_eq x []) (sym same) ∙ empty);
      spelled = inr (subst (AreParts UNITS t) same sum.parts);
      within = sum.few;
    }

not_empty : (t : List ℕ) → t ≢ [] → bytes_eq t [] ≡ false
not_empty [] some = absurd (some refl)
not_empty (b ∷ bs) some = refl

zero_parts : sum_from 0 UNITS (codes "0") ≡ None
zero_parts = refl

no_zero : (v : Bool) (t : List ℕ) (n : ℕ) → bytes_eq t (codes "0") ≡ v → sum_from 0 UNITS t ≡ Some n → cond v (Some 0) (sum_from 0 UNITS t) ≡ Some n
no_zero true t n zero e = let none : sum_from 0 UNITS t ≡ None = ap (sum_from 0 UNITS) (bytes_same t (codes "0") zero) ∙ zero_parts in cc
no_zero false t n zero e = e

said_by : (t : List ℕ) (n : ℕ) → n ≤ LONGEST_DURATION → ((t ≡ codes "0") × (n ≡ 0)) ⊎ AreParts UNITS t n → cond (bytes_eq t (codes "0")) (Some 0) (sum_from 0 UNITS t) ≡ Some n
said_by t n few (inl zero) = ap (λ (x : List ℕ). cond (bytes_eq x (codes "0")) (Some 0) (sum_from 0 UNITS x)) zero.0 ∙ ap Some (sym zero.1)
said_by t n few (inr parts) =
    let same : 0 + n ≡ n = omega arith in
    no_zero (bytes_eq t (codes "0")) t n refl (complete 0 UNITS t n refl (omega (arith, few)) parts ∙ ap Some same)

pub spelled : (t : List ℕ) (n : ℕ) → (duration_said t ≡ Some n) ↔ IsDuration t n
unfolding duration_said parts_said
spelled t n = (λ said. said_of (bytes_eq t []) (bytes_eq t (codes "0")) t n refl refl said, λ is. ap (λ b. cond b None (cond (bytes_eq t (codes "0")) (Some 0) (sum_from 0 UNITS t))) (not_empty t is.some) ∙ said_by t n is.within is.spelled)
