-- What the slots tell of the lists that were served last.
use Rattle.std.proofs.Common.{◌≡◌, ℕ, ◌<◌, ◌&&◌, ◌||◌, inl, inr, Bool, true, false, List, [], ◌++◌, Some, None, length, refl, sym, ap, ◌∙◌, arith}
use Rattle.std.specs.Prelude.{◌==◌, ◌≢◌, if◌then◌else◌, filter, not}
use Rattle.std.proofs.lemmas.Bool.Decides.{nat_tests}
use Rattle.std.proofs.lemmas.Map.Views.{any-filter_same}
use Rattle.fleet.specs.Live.{is_in}
use Rattle.fleet.specs.Orderly.{is_of}
use Rattle.fleet.specs.declared.known_target.KnownTarget.{KnownTarget}
use Rattle.served_lists.specs.Served.{is_free, listed_of, slot_let_go, slot_of, with_list, without_list}
use Rattle.served_lists.specs.Told.{FreeIsListed, GrowingTells, LeftOutForAnother, LetGoIsFree, LettingGoTells, ListsAreDisjoint, NoneTell, ServedAnewIsFree, ServingTells}
use Rattle.served_lists.proofs.SlotLemmas.{homes, is_of-more, length-with_list, slot_of-with_list, slot_of-without_list, slot_past, at_or_past}

pub is_in-filter : (p : ℕ → Bool) (targets : List ℕ) (target : ℕ) → is_in (filter p targets) target ≡ (p target && is_in targets target)
is_in-filter p targets target = any-filter_same (λ (other : ℕ). other == target) p (p target) (λ k e. ap p (grind (arith, nat_tests, e))) targets

is_in-if : (b : Bool) (targets others : List ℕ) (target : ℕ) → is_in (if b then targets else others) target ≡ (if b then is_in targets target else is_in others target)
is_in-if true targets others target = refl
is_in-if false targets others target = refl

-- a list of those that pass two tests
is_in-filters : (p q : ℕ → Bool) (targets : List ℕ) (target : ℕ) → is_in (filter p (filter q targets)) target ≡ (p target && (q target && is_in targets target))
is_in-filters p q targets target = is_in-filter p (filter q targets) target ∙ ap (λ (b : Bool). p target && b) (is_in-filter q targets target)

and_three : (a b c : Bool) → (a && (b && c)) ≡ true → (a ≡ true) × (b ≡ true) × (c ≡ true)
and_three true true true e = (refl, refl, refl)
and_three true true false e = absurd (cc e)
and_three true false c e = absurd (cc e)
and_three false b c e = absurd (cc e)

-- what is listed is free, of the job and held
pub listed_parts :
    (known : List KnownTarget) (slots : List ℕ) (collector job : ℕ) (held : List ℕ) (target : ℕ) → is_in (listed_of known slots collector job held) target ≡ true
    → (is_free slots collector target ≡ true) × (is_of known job target ≡ true) × (is_in held target ≡ true)
listed_parts known slots collector job held target e =
    and_three (is_free slots collector target) (is_of known job target) (is_in held target) (sym (is_in-filters (is_free slots collector) (is_of known job) held target) ∙ e)

-- x: the slot before, s: the slot after; c, j: the list that is served, b: it has the target; k, m: the list that is looked at, l: it had
-- the target; home: the target's job
serve_case :
    (x s home c j k m : ℕ) (b l of_j of_m : Bool) → 0 < k → of_j ≡ (home == j) → of_m ≡ (home == m) → (b ≡ true → (((x == 0) || (x == c)) ≡ true) × (of_j ≡ true)) → l ≡ ((x == k) && of_m)
    → s ≡ (if b then c else (if (x == c) && of_j then 0 else x)) → (if (k == c) && (m == j) then b else l) ≡ ((s == k) && of_m)
serve_case x s home c j k m true l of_j of_m some is_j is_m may had has =
    let free = (may refl).0 in
    let of_it = (may refl).1 in
    grind (arith, nat_tests, some, is_j, is_m, free, of_it, had, has)
serve_case x s home c j k m false l of_j of_m some is_j is_m may had has = grind (arith, nat_tests, some, is_j, is_m, had, has)

-- a target that is not known stands in no list
unknown_case : (d b l y z of_j of_m : Bool) → of_j ≡ false → of_m ≡ false → (b ≡ true → of_j ≡ true) → l ≡ (y && of_m) → (if d then b else l) ≡ (z && of_m)
unknown_case d true l y z of_j of_m no_j no_m may had = let of_it = may refl in absurd (cc (of_it, no_j))
unknown_case true false l y true of_j of_m no_j no_m may had = sym no_m
unknown_case true false l y false of_j of_m no_j no_m may had = refl
unknown_case false false l true true of_j of_m no_j no_m may had = had
unknown_case false false l true false of_j of_m no_j no_m may had = had ∙ no_m
unknown_case false false l false true of_j of_m no_j no_m may had = had ∙ sym no_m
unknown_case false false l false false of_j of_m no_j no_m may had = had

none_case : (k : ℕ) (of_m : Bool) → 0 < k → false ≡ ((0 == k) && of_m)
none_case k of_m some = grind (arith, nat_tests, some)

pub none_tell : NoneTell
none_tell known k m target some = none_case k (is_of known m target) some

pub serving_tells : ServingTells
serving_tells known served lists c j number held one tells k m target some =
    let slots = served.slots in
    let listed = listed_of known slots c j held in
    let b = is_in listed target in
    let new = slot_of (with_list known served c j number held).slots target in
    is_in-if ((k == c) && (m == j)) listed (lists k m) target
    ∙ elim (homes known target) [
      | inl past ↦
          unknown_case ((k == c) && (m == j)) b (is_in (lists k m) target) (slot_of slots target == k) (new == k) (is_of known j target) (is_of known m target) (past.1 j) (past.1 m) (λ e. (listed_parts known slots c j held target e).1)
          (tells k m target some)
      | inr home ↦
          serve_case (slot_of slots target) new home.0 c j k m b (is_in (lists k m) target) (is_of known j target) (is_of known m target) some (home.2 j) (home.2 m)
          (λ e. let parts = listed_parts known slots c j held target e in (parts.0, parts.1)) (tells k m target some) (slot_of-with_list known served c j number held target home.1)
    ]

-- where all lists of a collector are let go
all_go_case : (x s c k : ℕ) (l of_m : Bool) → 0 < k → l ≡ ((x == k) && of_m) → s ≡ (if (x == c) && true then 0 else x) → (if (k == c) && true then false else l) ≡ ((s == k) && of_m)
all_go_case x s c k l of_m some had has = grind (arith, nat_tests, some, had, has)

no_false : {X : Type 0} → false ≡ true → X
no_false e = absurd (cc e)

pub letting_go_tells : LettingGoTells
letting_go_tells known served lists c None tells k m target some =
    is_in-if ((k == c) && true) [] (lists k m) target
    ∙ all_go_case (slot_of served.slots target) (slot_of (without_list known served c None).slots target) c k (is_in (lists k m) target) (is_of known m target) some (tells k m target some) (slot_of-without_list known served c None target)
letting_go_tells known served lists c (Some j) tells k m target some =
    let new = slot_of (without_list known served c (Some j)).slots target in
    is_in-if ((k == c) && (m == j)) [] (lists k m) target
    ∙ elim (homes known target) [
      | inl past ↦
          unknown_case ((k == c) && (m == j)) false (is_in (lists k m) target) (slot_of served.slots target == k) (new == k) (is_of known j target) (is_of known m target) (past.1 j) (past.1 m) (λ e. no_false e) (tells k m target some)
      | inr home ↦
          serve_case (slot_of served.slots target) new home.0 c j k m false (is_in (lists k m) target) (is_of known j target) (is_of known m target) some (home.2 j) (home.2 m) (λ e. no_false e) (tells k m target some)
          (slot_of-without_list known served c (Some j) target)
    ]

-- no list has a target of which the slot is empty
empty_case : (x k : ℕ) (l of_m more_of_m : Bool) → 0 < k → x ≡ 0 → l ≡ ((x == k) && of_m) → l ≡ ((x == k) && more_of_m)
empty_case x k l of_m more_of_m some none had = grind (arith, nat_tests, some, none, had)

pub growing_tells : GrowingTells
growing_tells known more slots lists few tells k m target some = elim (at_or_past (length known) target) [
  | inl l ↦ tells k m target some ∙ ap (λ (b : Bool). (slot_of slots target == k) && b) (sym (is_of-more known more m target l))
  | inr l ↦
      empty_case (slot_of slots target) k (is_in (lists k m) target) (is_of known m target) (is_of (known ++ more) m target) some (slot_past slots target (omega (arith, few, l))) (tells k m target some)
]

apart : (x home c j k m : ℕ) (of_j of_m : Bool) → of_j ≡ (home == j) → of_m ≡ (home == m) → ((c == k) && (j == m)) ≡ false → ((x == c) && of_j) ≡ true → ((x == k) && of_m) ≡ false
apart x home c j k m of_j of_m is_j is_m un has = grind (arith, nat_tests, is_j, is_m, un, has)

and_no : (a b : Bool) → b ≡ false → (a && b) ≡ false
and_no true b e = e
and_no false b e = refl

pub lists_are_disjoint : ListsAreDisjoint
lists_are_disjoint known slots lists c j k m target tells some more un is =
    tells k m target more
    ∙ elim (homes known target) [
      | inl past ↦ and_no (slot_of slots target == k) (is_of known m target) (past.1 m)
      | inr home ↦ apart (slot_of slots target) home.0 c j k m (is_of known j target) (is_of known m target) (home.2 j) (home.2 m) un (sym (tells c j target some) ∙ is)
    ]

not_free : (x c : ℕ) → not ((x == 0) || (x == c)) ≡ true → (0 < x) × (x ≢ c)
not_free x c e = (grind (arith, nat_tests, e), grind (arith, nat_tests, e))

in_its_own : (x : ℕ) (b : Bool) → b ≡ true → ((x == x) && b) ≡ true
in_its_own x b e = grind (arith, nat_tests, e)

pub left_out_for_another : LeftOutForAnother
left_out_for_another known slots lists c j target held tells out =
    let x = slot_of slots target in
    let parts = and_three (not (is_free slots c target)) (is_of known j target) (is_in held target) (sym (is_in-filters (λ (t : ℕ). not (is_free slots c t)) (is_of known j) held target) ∙ out) in
    let un = not_free x c parts.0 in
    record { other = x; another = un.1; given = un.0; there = tells x j target un.0 ∙ in_its_own x (is_of known j target) parts.1 }

free_in : (x c : ℕ) (b : Bool) → x ≡ 0 → b ≡ true → (((x == 0) || (x == c)) && b) ≡ true
free_in x c b none e = grind (arith, nat_tests, none, e)

pub free_is_listed : FreeIsListed
free_is_listed known slots c j target held holds none =
    is_in-filter (is_free slots c) (filter (is_of known j) held) target ∙ free_in (slot_of slots target) c (is_in (filter (is_of known j) held) target) none holds

if_true : (b : Bool) (n m : ℕ) → b ≡ true → (if b then n else m) ≡ n
if_true true n m e = refl
if_true false n m e = no_false e

pub let_go_is_free : LetGoIsFree
let_go_is_free known served c target job has_it =
    slot_of-without_list known served c job target ∙ if_true _ 0 (slot_of served.slots target) has_it

not_and : (b c : Bool) → c ≡ false → (b ≡ true → c ≡ true) → b ≡ false
not_and true c e f = absurd (cc (e, f refl))
not_and false c e f = refl

if_false : (b : Bool) (n m : ℕ) → b ≡ false → (if b then n else m) ≡ m
if_false true n m e = no_false (sym e)
if_false false n m e = refl

pub served_anew_is_free : ServedAnewIsFree
served_anew_is_free known served c j number target held has_it lacks = elim (at_or_past (length known) target) [
  | inl l ↦
      slot_of-with_list known served c j number held target l
      ∙ if_false _ c (slot_let_go known served.slots c (Some j) target) (not_and (is_in (listed_of known served.slots c j held) target) (is_in held target) lacks (λ e. (listed_parts known served.slots c j held target e).2))
      ∙ if_true _ 0 (slot_of served.slots target) has_it
  | inr l ↦ slot_past (with_list known served c j number held).slots target (omega (arith, l, length-with_list known served c j number held))
]
