-- Blocks stay at their places, and a removal is done once.
use Rattle.std.proofs.Common.{◌≡◌, ◌≢◌, ◌⊎◌, inl, inr, ◌==◌, ◌&&◌, ◌||◌, ℕ, ◌+◌, ◌<◌, ◌≤◌, Bool, true, false, List, [], ◌∷◌, Option, Some, None, cond, refl, sym, ap, subst, ◌∙◌, arith}
use Rattle.std.specs.Prelude.{nat_le, not}
use Rattle.std.specs.List.{list_all}
use Rattle.std.proofs.lemmas.Bool.{eq-eqb, eqb-true, le-leb, leb-true, ne_eqb}
use Rattle.std.proofs.Math.Nat.{eq-or-lt_of_le}
use Rattle.etcd_laws.specs.Stores.{Block, Request, Claim, Write, Remove, Switch, Forget, Step, Asks, Ends, Store, after, created_at, created_of, done, leads, next, passes, run, spares}
use Rattle.etcd_laws.specs.Laws.{AnswersStay, BlocksStay, RemovalsAreOnce, Stays}
use Rattle.etcd_laws.proofs.Leading.{unchanged}

last_or_before : (k n : ℕ) → k ≤ n → (k ≡ n) ⊎ (k < n)
last_or_before k n l = eq-or-lt_of_le {n = k} {m = n} l

both : (a b : Bool) → (a && b) ≡ true → (a ≡ true) × (b ≡ true)
both true b e = (refl, e)
both false b e = absurd (cc e)

and_false : (a b : Bool) → b ≡ false → (a && b) ≡ false
and_false true b e = e
and_false false b e = refl

outside : (b : Bool) (x y : Option Block) → (b ≡ true → ⊥) → cond b x y ≡ y
outside true x y never = absurd (never refl)
outside false x y never = refl

blocks_if : (b : Bool) (s t : Store) (e n : ℕ) → (b ≡ true → t.blocks e n ≡ s.blocks e n) → (cond b t s).blocks e n ≡ s.blocks e n
blocks_if true s t e n h = h refl
blocks_if false s t e n h = refl

-- ---- the first blocks of an epoch stay

not_at : (a b : Bool) → a ≡ true → (not a || b) ≡ true → b ≡ true
not_at true b t e = e
not_at false b t e = absurd (cc t)

not_both : (a : Bool) → a ≡ true → not a ≡ true → ⊥
not_both true t e = cc e
not_both false t e = cc t

-- nothing is written where one of them stands
no_write : (s cur : Store) (e number n g e' n' t : ℕ) (bytes : List ℕ) → 0 < created_at s e n → cur.blocks e n ≡ s.blocks e n → passes cur (Write t g e' n' bytes) ≡ true → ((e == e') && (n == n')) ≡ true → ⊥
no_write s cur e number n g e' n' t bytes some same p at =
    let compares = both (leads cur.leader t) ((cur.epoch == g) && (created_at cur e' n' == 0)) p in
    let absent : created_of (cur.blocks e' n') ≡ 0 = eqb-true (created_at cur e' n') 0 (both (cur.epoch == g) (created_at cur e' n' == 0) compares.1).1 in
    let place = both (e == e') (n == n') at in
    let here : created_of (cur.blocks e n) ≡ created_of (cur.blocks e' n') = ap (λ (x : ℕ). created_of (cur.blocks x n)) (eqb-true e e' place.0) ∙ ap (λ (x : ℕ). created_of (cur.blocks e' x)) (eqb-true n n' place.1) in
    let was : created_of (cur.blocks e n) ≡ created_of (s.blocks e n) = ap created_of same in
    absurd (omega (arith, some, absent, here, was))

-- none of them is removed by what names another block
no_removal : (s cur : Store) (e number n g e' m t created : ℕ) → n ≤ number → ((k : ℕ) → k ≤ number → cur.blocks e k ≡ s.blocks e k)
    → (not (e' == e) || (not (nat_le m number) || not (created_at s e m == created))) ≡ true → passes cur (Remove t g e' m created) ≡ true → ((e == e') && nat_le m n) ≡ true → ⊥
no_removal s cur e number n g e' m t created l same spared p at =
    let compares = both (leads cur.leader t) ((cur.epoch == g) && (created_at cur e' m == created)) p in
    let named : created_of (cur.blocks e' m) ≡ created = eqb-true (created_at cur e' m) created (both (cur.epoch == g) (created_at cur e' m == created) compares.1).1 in
    let place = both (e == e') (nat_le m n) at in
    let epochs : e ≡ e' = eqb-true e e' place.0 in
    let below : m ≤ number = omega (arith, leb-true m n place.1, l) in
    let first = not_at (e' == e) (not (nat_le m number) || not (created_at s e m == created)) (eq-eqb e' e (sym epochs)) spared in
    let differs = not_at (nat_le m number) (not (created_at s e m == created)) (le-leb m number below) first in
    let is : created_at s e m ≡ created = ap created_of (sym (same m below)) ∙ ap (λ (x : ℕ). created_of (cur.blocks x m)) epochs ∙ named in
    not_both (created_at s e m == created) (eq-eqb (created_at s e m) created is) differs

step_spares : (s cur : Store) (e number : ℕ) (step : Step) → ((n : ℕ) → n ≤ number → 0 < created_at s e n) → spares s e number step ≡ true → ((n : ℕ) → n ≤ number → cur.blocks e n ≡ s.blocks e n)
    → (n : ℕ) → n ≤ number → (next cur step).blocks e n ≡ s.blocks e n
step_spares s cur e number (Ends lease) some spared same n l = same n l
step_spares s cur e number (Asks (Claim t lease)) some spared same n l = blocks_if (passes cur (Claim t lease)) cur (done cur (Claim t lease)) e n (λ p. refl) ∙ same n l
step_spares s cur e number (Asks (Write t g e' n' bytes)) some spared same n l =
    blocks_if (passes cur (Write t g e' n' bytes)) cur (done cur (Write t g e' n' bytes)) e n (λ p. outside ((e == e') && (n == n')) _ _ (λ at. no_write s cur e number n g e' n' t bytes (some n l) (same n l) p at)) ∙ same n l
step_spares s cur e number (Asks (Remove t g e' m created)) some spared same n l =
    blocks_if (passes cur (Remove t g e' m created)) cur (done cur (Remove t g e' m created)) e n (λ p. outside ((e == e') && nat_le m n) _ _ (λ at. no_removal s cur e number n g e' m t created l same spared p at)) ∙ same n l
step_spares s cur e number (Asks (Switch t g)) some spared same n l = blocks_if (passes cur (Switch t g)) cur (done cur (Switch t g)) e n (λ p. refl) ∙ same n l
step_spares s cur e number (Asks (Forget t e')) some spared same n l =
    blocks_if (passes cur (Forget t e')) cur (done cur (Forget t e')) e n
    (λ p. outside ((e == e') && nat_le 0 n) _ _ (λ at. not_both (e' == e) (eq-eqb e' e (sym (eqb-true e e' (both (e == e') (nat_le 0 n) at).0))) spared)) ∙ same n l

run_spares : (s cur : Store) (e number : ℕ) (steps : List Step) → ((n : ℕ) → n ≤ number → 0 < created_at s e n) → list_all (spares s e number) steps ≡ true → ((n : ℕ) → n ≤ number → cur.blocks e n ≡ s.blocks e n)
    → (n : ℕ) → n ≤ number → (run cur steps).blocks e n ≡ s.blocks e n
run_spares s cur e number [] some spared same n l = same n l
run_spares s cur e number (step ∷ steps) some spared same n l =
    let parts = both (spares s e number step) (list_all (spares s e number) steps) spared in
    run_spares s (next cur step) e number steps some parts.1 (step_spares s cur e number step some parts.0 same) n l

pub blocks_stay : BlocksStay
blocks_stay s epoch number steps some spared = run_spares s s epoch number steps some spared (λ n l. refl)

-- ---- what was answered stays

inside : (b : Bool) (x y : Option Block) → b ≡ true → cond b x y ≡ x
inside true x y e = refl
inside false x y e = absurd (cc e)

and_true : (a b : Bool) → a ≡ true → b ≡ true → (a && b) ≡ true
and_true true b e f = f
and_true false b e f = absurd (cc e)

pub answers_stay : AnswersStay
answers_stay s term going epoch number bytes steps kept some before spared =
    let w : Request = Write term going epoch number bytes in
    let block : Block = record { created = s.revision; bytes = bytes } in
    let new : after s w ≡ done s w = ap (λ (b : Bool). cond b (done s w) s) kept in
    let at : (after s w).blocks epoch number ≡ Some block = ap (λ (t : Store). t.blocks epoch number) new ∙ inside ((epoch == epoch) && (number == number)) (Some block) (s.blocks epoch number) (and_true (epoch == epoch) (number == number) (eq-eqb epoch epoch refl) (eq-eqb number number refl)) in
    let others : (n : ℕ) → n < number → (after s w).blocks epoch n ≡ s.blocks epoch n = λ n l. ap (λ (t : Store). t.blocks epoch n) new ∙ outside ((epoch == epoch) && (n == number)) (Some block) (s.blocks epoch n)
    (λ p. absurd (omega (arith, l, eqb-true n number (both (epoch == epoch) (n == number) p).1))) in
    let all : (n : ℕ) → n ≤ number → 0 < created_at (after s w) epoch n = λ n l. elim (last_or_before n number l) [
      | inl e ↦ subst (λ (k : ℕ). 0 < created_of ((after s w).blocks epoch k)) (sym e) (subst (λ (o : Option Block). 0 < created_of o) (sym at) some)
      | inr m ↦ subst (λ (o : Option Block). 0 < created_of o) (sym (others n m)) (before n m)
    ] in
    let t = run (after s w) steps in
    let there : t.blocks epoch number ≡ Some block = blocks_stay (after s w) epoch number steps all spared number (omega arith) ∙ at in
    record {
      block = block;
      there = there;
      same = refl;
      copies = λ u g bs. unchanged t (Write u g epoch number bs) (and_false (leads t.leader u) ((t.epoch == g) && (created_at t epoch number == 0)) (and_false (t.epoch == g) (created_at t epoch number == 0)
          (ne_eqb (created_at t epoch number) 0 (λ e. (let z : created_at t epoch number ≡ s.revision = ap created_of there in absurd (omega (arith, some, z, e)))))));
    }

-- ---- a removal is done once

record IsGone (s : Store) (e n created : ℕ) : Type 0 where
  other : created_at s e n ≢ created
  older : created < s.revision

gone_if : (b : Bool) (s t : Store) (e n created : ℕ) → IsGone s e n created → (b ≡ true → IsGone t e n created) → IsGone (cond b t s) e n created
gone_if true s t e n created h more = more refl
gone_if false s t e n created h more = h

other_if : (b : Bool) (x y : Option Block) (created : ℕ) → created_of x ≢ created → created_of y ≢ created → created_of (cond b x y) ≢ created
other_if true x y created dx dy = dx
other_if false x y created dx dy = dy

step_gone : (s : Store) (e n created : ℕ) (step : Step) → 0 < created → IsGone s e n created → IsGone (next s step) e n created
step_gone s e n created (Ends lease) some h = record { other = h.other; older = omega (arith, h.older) }
step_gone s e n created (Asks (Claim t lease)) some h = gone_if (passes s (Claim t lease)) s (done s (Claim t lease)) e n created h (λ p. record { other = h.other; older = omega (arith, h.older) })
step_gone s e n created (Asks (Write t g e' n' bytes)) some h =
    gone_if (passes s (Write t g e' n' bytes)) s (done s (Write t g e' n' bytes)) e n created h
    (λ p. record { other = other_if ((e == e') && (n == n')) (Some (record { created = s.revision; bytes = bytes })) (s.blocks e n) created (λ q. absurd (omega (arith, h.older, q))) h.other; older = omega (arith, h.older) })
step_gone s e n created (Asks (Remove t g e' m c)) some h =
    gone_if (passes s (Remove t g e' m c)) s (done s (Remove t g e' m c)) e n created h
    (λ p. record { other = other_if ((e == e') && nat_le m n) None (s.blocks e n) created (λ q. absurd (omega (arith, some, q))) h.other; older = omega (arith, h.older) })
step_gone s e n created (Asks (Switch t g)) some h = gone_if (passes s (Switch t g)) s (done s (Switch t g)) e n created h (λ p. record { other = h.other; older = omega (arith, h.older) })
step_gone s e n created (Asks (Forget t e')) some h =
    gone_if (passes s (Forget t e')) s (done s (Forget t e')) e n created h
    (λ p. record { other = other_if ((e == e') && nat_le 0 n) None (s.blocks e n) created (λ q. absurd (omega (arith, some, q))) h.other; older = omega (arith, h.older) })

stays_gone : (s : Store) (e n created : ℕ) (steps : List Step) → 0 < created → IsGone s e n created → IsGone (run s steps) e n created
stays_gone s e n created [] some h = h
stays_gone s e n created (step ∷ steps) some h = stays_gone (next s step) e n created steps some (step_gone s e n created step some h)

pub removals_are_once : RemovalsAreOnce
removals_are_once s term going epoch number created steps some older other =
    let t = run s steps in
    let gone = stays_gone s epoch number created steps some (record { other = other; older = older }) in
    unchanged t (Remove term going epoch number created) (and_false (leads t.leader term) ((t.epoch == going) && (created_at t epoch number == created)) (and_false (t.epoch == going) (created_at t epoch number == created) (ne_eqb (created_at t epoch number) created gone.other)))
