-- What a leader asks is done once.
use Rattle.std.proofs.Common.{◌≡◌, ◌≢◌, ◌⊎◌, inl, inr, ◌==◌, ◌&&◌, ℕ, ◌+◌, ◌<◌, ◌≤◌, Bool, true, false, List, [], ◌∷◌, Option, Some, None, cond, refl, sym, ap, subst, ◌∙◌, arith}
use Rattle.std.specs.Prelude.{nat_le, not}
use Rattle.std.specs.List.{list_all}
use Rattle.std.proofs.lemmas.Bool.{cases_Bool, eq-eqb, eqb-true, le-leb, ne_eqb}
use Rattle.etcd_laws.specs.Stores.{Block, Request, Claim, Write, Remove, Switch, Forget, Store, after, created_at, created_of, done, is_of, leads, passes, run}
use Rattle.etcd_laws.specs.Scripts.{AreCopies, EachIsDoneOnce, IsAmong, IsMade, IsScript, asks, names_all, writes_in}
use Rattle.etcd_laws.proofs.Leading.{unchanged}

-- its copies change nothing
abbrev Spent : Store → Request → Type 0
Spent s (Claim term lease) = Unit {0}
Spent s (Write term going epoch number bytes) = (going ≤ epoch) × ((going < s.epoch) ⊎ (0 < created_at s epoch number))
Spent s (Remove term going epoch number created) = (0 < created) × (created < s.revision) × (created_at s epoch number ≢ created)
Spent s (Switch term going) = going < s.epoch
Spent s (Forget term epoch) = Unit {0}

AllSpent : Store → List Request → Type 0
AllSpent s asked = (r : Request) → IsAmong r asked → Spent s r

both : (a b : Bool) → (a && b) ≡ true → (a ≡ true) × (b ≡ true)
both true b e = (refl, e)
both false b e = absurd (cc e)

and_false : (a b : Bool) → b ≡ false → (a && b) ≡ false
and_false true b e = e
and_false false b e = refl

-- ---- what is spent fails

over : (s : Store) (going : ℕ) (b : Bool) → going < s.epoch → ((s.epoch == going) && b) ≡ false
over s going b l = ap (λ (c : Bool). c && b) (ne_eqb s.epoch going (λ e. absurd (omega (arith, l, e))))

spent_fails : (s : Store) (term : ℕ) (r : Request) → is_of term r ≡ true → names_all r ≡ true → Spent s r → passes s r ≡ false
spent_fails s term (Claim t lease) of all h = absurd (cc of)
spent_fails s term (Write t going epoch number bytes) of all h = and_false (leads s.leader t) ((s.epoch == going) && (created_at s epoch number == 0)) (elim h.1 [
  | inl l ↦ over s going (created_at s epoch number == 0) l
  | inr l ↦ and_false (s.epoch == going) (created_at s epoch number == 0) (ne_eqb (created_at s epoch number) 0 (λ e. absurd (omega (arith, l, e))))
])
spent_fails s term (Remove t going epoch number created) of all h =
    and_false (leads s.leader t) ((s.epoch == going) && (created_at s epoch number == created)) (and_false (s.epoch == going) (created_at s epoch number == created) (ne_eqb (created_at s epoch number) created h.2))
spent_fails s term (Switch t going) of all h = and_false (leads s.leader t) (s.epoch == going) (ne_eqb s.epoch going (λ e. absurd (omega (arith, h, e))))
spent_fails s term (Forget t epoch) of all h = absurd (cc all)

-- ---- the blocks behind a request

some_if : (b : Bool) (x y : Option Block) → 0 < created_of x → 0 < created_of y → 0 < created_of (cond b x y)
some_if true x y l m = l
some_if false x y l m = m

other_if : (b : Bool) (x y : Option Block) (created : ℕ) → created_of x ≢ created → created_of y ≢ created → created_of (cond b x y) ≢ created
other_if true x y created dx dy = dx
other_if false x y created dx dy = dy

outside : (b c : Bool) (x y : Option Block) → b ≡ false → cond (b && c) x y ≡ y
outside true c x y e = absurd (cc e)
outside false c x y e = refl

not_true : (b : Bool) → not b ≡ true → b ≡ false
not_true true e = absurd (cc e)
not_true false e = refl

-- what was written in this term is of another epoch than what is removed
elsewhere : (asked : List Request) (epoch t g e n : ℕ) (bytes : List ℕ) → list_all (λ r. not (writes_in epoch r)) asked ≡ true → IsAmong (Write t g e n bytes) asked → (e == epoch) ≡ false
elsewhere [] epoch t g e n bytes none here = absurd here
elsewhere (q ∷ asked) epoch t g e n bytes none (inl same) = not_true (e == epoch) (ap (λ (r : Request). not (writes_in epoch r)) (sym same) ∙ (both (not (writes_in epoch q)) (list_all (λ r. not (writes_in epoch r)) asked) none).0)
elsewhere (q ∷ asked) epoch t g e n bytes none (inr later) = elsewhere asked epoch t g e n bytes (both (not (writes_in epoch q)) (list_all (λ r. not (writes_in epoch r)) asked) none).1 later

-- what is spent stays so behind the next request
stays : (s : Store) (asked : List Request) (r q : Request) → 0 < s.revision → passes s r ≡ true → IsMade s asked r → IsAmong q asked → Spent s q → Spent (done s r) q
stays s asked (Claim t lease) (Claim u l) some p made among h = tt
stays s asked (Claim t lease) (Write u g e n bytes) some p made among h = h
stays s asked (Claim t lease) (Remove u g e n c) some p made among h = (h.0, omega (arith, h.1), h.2)
stays s asked (Claim t lease) (Switch u g) some p made among h = h
stays s asked (Claim t lease) (Forget u e) some p made among h = tt
stays s asked (Write t going epoch number new) (Claim u l) some p made among h = tt
stays s asked (Write t going epoch number new) (Write u g e n bytes) some p made among h =
    (h.0, elim h.1 [ inl l ↦ inl l | inr l ↦ inr (some_if ((e == epoch) && (n == number)) (Some (record { created = s.revision; bytes = new })) (s.blocks e n) some l) ])
stays s asked (Write t going epoch number new) (Remove u g e n c) some p made among h =
    (h.0, omega (arith, h.1), other_if ((e == epoch) && (n == number)) (Some (record { created = s.revision; bytes = new })) (s.blocks e n) c (λ same. absurd (omega (arith, h.1, same))) h.2)
stays s asked (Write t going epoch number new) (Switch u g) some p made among h = h
stays s asked (Write t going epoch number new) (Forget u e) some p made among h = tt
stays s asked (Remove t going epoch number created) (Claim u l) some p made among h = tt
stays s asked (Remove t going epoch number created) (Write u g e n bytes) some p made among h =
    (h.0, elim h.1 [ inl l ↦ inl l | inr l ↦ inr (subst (λ (o : Option Block). 0 < created_of o) (sym (outside (e == epoch) (nat_le number n) None (s.blocks e n) (elsewhere asked epoch u g e n bytes made.2 among))) l) ])
stays s asked (Remove t going epoch number created) (Remove u g e n c) some p made among h =
    (h.0, omega (arith, h.1), other_if ((e == epoch) && nat_le number n) None (s.blocks e n) c (λ same. absurd (omega (arith, h.0, same))) h.2)
stays s asked (Remove t going epoch number created) (Switch u g) some p made among h = h
stays s asked (Remove t going epoch number created) (Forget u e) some p made among h = tt
stays s asked (Switch t going) (Claim u l) some p made among h = tt
stays s asked (Switch t going) (Write u g e n bytes) some p made among h =
    let now : s.epoch ≡ going = eqb-true s.epoch going (both (leads s.leader t) (s.epoch == going) p).1 in
    (h.0, elim h.1 [ inl l ↦ inl (omega (arith, l, now)) | inr l ↦ inr l ])
stays s asked (Switch t going) (Remove u g e n c) some p made among h = (h.0, omega (arith, h.1), h.2)
stays s asked (Switch t going) (Switch u g) some p made among h =
    let now : s.epoch ≡ going = eqb-true s.epoch going (both (leads s.leader t) (s.epoch == going) p).1 in
    omega (arith, h, now)
stays s asked (Switch t going) (Forget u e) some p made among h = tt
stays s asked (Forget t epoch) (Claim u l) some p made among h = tt
stays s asked (Forget t epoch) (Write u g e n bytes) some p made among h = (
  h.0,
  elim h.1 [
    | inl l ↦ inl l
    | inr l ↦ elim (cases_Bool (e == epoch)) [
      | inl same ↦ inl (omega (arith, h.0, made, eqb-true e epoch same))
      | inr other ↦ inr (subst (λ (o : Option Block). 0 < created_of o) (sym (outside (e == epoch) (nat_le 0 n) None (s.blocks e n) other)) l)
    ]
  ],
)
stays s asked (Forget t epoch) (Remove u g e n c) some p made among h = (h.0, omega (arith, h.1), other_if ((e == epoch) && nat_le 0 n) None (s.blocks e n) c (λ same. absurd (omega (arith, h.0, same))) h.2)
stays s asked (Forget t epoch) (Switch u g) some p made among h = h
stays s asked (Forget t epoch) (Forget u e) some p made among h = tt

inside : (b : Bool) (x y : Option Block) (P : Option Block → Type 0) → b ≡ true → P x → P (cond b x y)
inside true x y P e h = h
inside false x y P e h = absurd (cc e)

and_true : (a b : Bool) → a ≡ true → b ≡ true → (a && b) ≡ true
and_true true b e f = f
and_true false b e f = absurd (cc e)

-- what was done is spent
is_spent : (s : Store) (asked : List Request) (r : Request) → 0 < s.revision → passes s r ≡ true → IsMade s asked r → Spent (done s r) r
is_spent s asked (Claim t lease) some p made = tt
is_spent s asked (Write t going epoch number bytes) some p made =
    (made, inr (inside ((epoch == epoch) && (number == number)) (Some (record { created = s.revision; bytes = bytes })) (s.blocks epoch number) (λ (o : Option Block). 0 < created_of o) (and_true (epoch == epoch) (number == number) (eq-eqb epoch epoch refl) (eq-eqb number number refl)) some))
is_spent s asked (Remove t going epoch number created) some p made =
    (made.0, omega (arith, made.1), inside ((epoch == epoch) && nat_le number number) None (s.blocks epoch number) (λ (o : Option Block). created_of o ≢ created) (and_true (epoch == epoch) (nat_le number number) (eq-eqb epoch epoch refl) (le-leb number number (omega arith))) (λ same. absurd (omega (arith, made.0, same))))
is_spent s asked (Switch t going) some p made = omega arith
is_spent s asked (Forget t epoch) some p made = tt

-- ---- once

rises : (s : Store) (r : Request) → 0 < (done s r).revision
rises s (Claim t lease) = omega arith
rises s (Write t going epoch number bytes) = omega arith
rises s (Remove t going epoch number created) = omega arith
rises s (Switch t going) = omega arith
rises s (Forget t epoch) = omega arith

all_of : (s : Store) (asked : List Request) (r : Request) → 0 < s.revision → passes s r ≡ true → IsMade s asked r → AllSpent s asked → AllSpent (done s r) (r ∷ asked)
unfolding AllSpent
all_of s asked r some p made all q (inl same) = subst (Spent (done s r)) same (is_spent s asked r some p made)
all_of s asked r some p made all q (inr among) = stays s asked r q some p made among (all q among)

-- each of those asked is of the term
AreOf : ℕ → List Request → Type 0
AreOf term asked = (r : Request) → IsAmong r asked → is_of term r ≡ true

once : (s : Store) (term : ℕ) (asked script coming : List Request) → 0 < s.revision → AreOf term asked → AllSpent s asked → IsScript term s asked script → AreCopies asked script coming → run s (asks coming) ≡ run s (asks script)
unfolding AllSpent AreOf
once s term asked [] [] some of all made copies = refl
once s term asked (q ∷ script) [] some of all made copies = absurd copies
once s term asked [] (r ∷ coming) some of all made copies =
    ap (λ (t : Store). run t (asks coming)) (unchanged s r (spent_fails s term r (of r copies.0.0) copies.0.1 (all r copies.0.0))) ∙ once s term asked [] coming some of all made copies.1
once s term asked (q ∷ script) (r ∷ coming) some of all made (inl more) =
    let new : after s q ≡ done s q = ap (λ (b : Bool). cond b (done s q) s) made.0.1 in
    let spent : AllSpent (done s q) (q ∷ asked) = all_of s asked q some made.0.1 made.0.2 all in
    let mine : AreOf term (q ∷ asked) = λ p here. elim here [ inl same ↦ ap (is_of term) (sym same) ∙ made.0.0 | inr later ↦ of p later ] in
    ap (λ (x : Request). run (after s x) (asks coming)) (sym more.0)
    ∙ once (after s q) term (q ∷ asked) script coming (subst (λ (t : Store). 0 < t.revision) (sym new) (rises s q)) mine (subst (λ (t : Store). AllSpent t (q ∷ asked)) (sym new) spent) made.1 more.1
once s term asked (q ∷ script) (r ∷ coming) some of all made (inr copy) =
    ap (λ (t : Store). run t (asks coming)) (unchanged s r (spent_fails s term r (of r copy.0.0) copy.0.1 (all r copy.0.0))) ∙ once s term asked (q ∷ script) coming some of all made copy.1

pub each_is_done_once : EachIsDoneOnce
unfolding AllSpent AreOf
each_is_done_once s term script coming some made copies = once s term [] script coming some (λ r here. absurd here) (λ r here. absurd here) made copies
