-- Who leads changes the store alone, and who was deposed does not.
use Rattle.std.proofs.Common.{◌≡◌, ◌≢◌, ◌⊎◌, inl, inr, ◌==◌, ◌&&◌, ◌||◌, ℕ, ◌+◌, Bool, true, false, List, [], ◌∷◌, Option, Some, None, cond, refl, sym, ap, subst, ◌∙◌}
use Rattle.std.specs.Prelude.{not}
use Rattle.std.specs.List.{list_all, list_any}
use Rattle.std.proofs.lemmas.Bool.{eqb-false, eqb-true, ne_eqb}
use Rattle.std.proofs.lemmas.Bool.Decides.{eqb_tells}
use Rattle.etcd_laws.specs.Stores.{Lead, Request, Claim, Write, Remove, Switch, Forget, Step, Asks, Ends, Store, after, created_at, done, ends_lease, is_claimed_under, is_free, is_of, leads, next, passes, run, those_of, unled}
use Rattle.etcd_laws.specs.Laws.{DeposedChangesNothing, DeposedForGood, TheLeaderAlone}

pub unchanged : (s : Store) (r : Request) → passes s r ≡ false → after s r ≡ s
unchanged s r e = ap (λ (b : Bool). cond b (done s r) s) e

fails : (s : Store) (term : ℕ) (r : Request) → leads s.leader term ≡ false → is_of term r ≡ true → passes s r ≡ false
fails s term (Claim t lease) out of = absurd (cc of)
fails s term (Write t going epoch number bytes) out of = ap (λ (b : Bool). b && ((s.epoch == going) && (created_at s epoch number == 0))) (ap (leads s.leader) (eqb-true t term of) ∙ out)
fails s term (Remove t going epoch number created) out of = ap (λ (b : Bool). b && ((s.epoch == going) && (created_at s epoch number == created))) (ap (leads s.leader) (eqb-true t term of) ∙ out)
fails s term (Switch t going) out of = ap (λ (b : Bool). b && (s.epoch == going)) (ap (leads s.leader) (eqb-true t term of) ∙ out)
fails s term (Forget t epoch) out of = ap (leads s.leader) (eqb-true t term of) ∙ out

pub deposed_changes_nothing : DeposedChangesNothing
deposed_changes_nothing s term r out of = unchanged s r (fails s term r out of)

-- ---- deposed for good

record Out (s : Store) (term lease : ℕ) : Type 0 where
  out : leads s.leader term ≡ false
  ended : s.ended lease ≡ true

out_if : (b : Bool) (s t : Store) (term lease : ℕ) → Out s term lease → (b ≡ true → Out t term lease) → Out (cond b t s) term lease
out_if true s t term lease h more = more refl
out_if false s t term lease h more = h

unled_by : (b : Bool) (l : Lead) (term : ℕ) → leads (Some l) term ≡ false → leads (cond b None (Some l)) term ≡ false
unled_by true l term e = refl
unled_by false l term e = e

unled_out : (leader : Option Lead) (term lease : ℕ) → leads leader term ≡ false → leads (unled leader lease) term ≡ false
unled_out None term lease e = refl
unled_out (Some l) term lease e = unled_by (l.lease == lease) l term e

or_true : (a b : Bool) → b ≡ true → (a || b) ≡ true
or_true true b e = refl
or_true false b e = e

both : (a b : Bool) → (a && b) ≡ true → (a ≡ true) × (b ≡ true)
both true b e = (refl, e)
both false b e = absurd (cc e)

second : (a b : Bool) → a ≡ true → (not a || b) ≡ true → b ≡ true
second true b t e = e
second false b t e = absurd (cc t)

-- a claim under a lease that ended is refused
late_claim : (s : Store) (term lease t l : ℕ) → s.ended lease ≡ true → t ≡ term → (not (t == term) || (l == lease)) ≡ true → passes s (Claim t l) ≡ true → ⊥
late_claim s term lease t l ended same under p =
    let of : (t == term) ≡ true = ap (λ (n : ℕ). n == term) same ∙ (elim (eqb_tells term term) [ inl e ↦ e.0 | inr e ↦ absurd (e.1 refl) ]) in
    let lease_is : l ≡ lease = eqb-true l lease (second (t == term) (l == lease) of under) in
    let live : not (s.ended l) ≡ true = (both (is_free s.leader) (not (s.ended l)) p).1 in
    let dead : not (s.ended l) ≡ false = ap (λ (n : ℕ). not (s.ended n)) lease_is ∙ ap not ended in
    cc (live, dead)

step_out : (s : Store) (term lease : ℕ) (step : Step) → Out s term lease → is_claimed_under term lease step ≡ true → Out (next s step) term lease
step_out s term lease (Ends l) h under = record { out = unled_out s.leader term l h.out; ended = or_true (lease == l) (s.ended lease) h.ended }
step_out s term lease (Asks (Claim t l)) h under =
    out_if (passes s (Claim t l)) s (done s (Claim t l)) term lease h (λ p. record { out = ne_eqb t term (λ same. late_claim s term lease t l h.ended same under p); ended = h.ended })
step_out s term lease (Asks (Write t going epoch number bytes)) h under = out_if (passes s (Write t going epoch number bytes)) s (done s (Write t going epoch number bytes)) term lease h (λ p. record { out = h.out; ended = h.ended })
step_out s term lease (Asks (Remove t going epoch number created)) h under = out_if (passes s (Remove t going epoch number created)) s (done s (Remove t going epoch number created)) term lease h (λ p. record { out = h.out; ended = h.ended })
step_out s term lease (Asks (Switch t going)) h under = out_if (passes s (Switch t going)) s (done s (Switch t going)) term lease h (λ p. record { out = h.out; ended = h.ended })
step_out s term lease (Asks (Forget t epoch)) h under = out_if (passes s (Forget t epoch)) s (done s (Forget t epoch)) term lease h (λ p. record { out = h.out; ended = h.ended })

stays_out : (s : Store) (term lease : ℕ) (steps : List Step) → Out s term lease → list_all (is_claimed_under term lease) steps ≡ true → Out (run s steps) term lease
stays_out s term lease [] h under = h
stays_out s term lease (step ∷ steps) h under =
    let parts = both (is_claimed_under term lease step) (list_all (is_claimed_under term lease) steps) under in
    stays_out (next s step) term lease steps (step_out s term lease step h parts.0) parts.1

pub deposed_for_good : DeposedForGood
deposed_for_good s term lease steps r out ended under of = deposed_changes_nothing (run s steps) term r (stays_out s term lease steps (record { out = out; ended = ended }) under).out of

-- ---- the leader alone

leader_if : (b : Bool) (s t : Store) → t.leader ≡ s.leader → (cond b t s).leader ≡ s.leader
leader_if true s t e = e
leader_if false s t e = refl

leader_kept : (s : Store) (term : ℕ) (r : Request) → is_of term r ≡ true → (after s r).leader ≡ s.leader
leader_kept s term (Claim t lease) of = absurd (cc of)
leader_kept s term (Write t going epoch number bytes) of = leader_if (passes s (Write t going epoch number bytes)) s (done s (Write t going epoch number bytes)) refl
leader_kept s term (Remove t going epoch number created) of = leader_if (passes s (Remove t going epoch number created)) s (done s (Remove t going epoch number created)) refl
leader_kept s term (Switch t going) of = leader_if (passes s (Switch t going)) s (done s (Switch t going)) refl
leader_kept s term (Forget t epoch) of = leader_if (passes s (Forget t epoch)) s (done s (Forget t epoch)) refl

not_led : (s : Store) (lead : Lead) (t : ℕ) → s.leader ≡ Some lead → (t == lead.term) ≡ false → leads s.leader t ≡ false
not_led s lead t e of = ap (λ (o : Option Lead). leads o t) e ∙ ne_eqb lead.term t (λ same. eqb-false t lead.term of (sym same))

others_fail : (s : Store) (lead : Lead) (r : Request) → s.leader ≡ Some lead → is_of lead.term r ≡ false → passes s r ≡ false
others_fail s lead (Claim t lease) e of = ap (λ (o : Option Lead). is_free o && not (s.ended lease)) e
others_fail s lead (Write t going epoch number bytes) e of = ap (λ (b : Bool). b && ((s.epoch == going) && (created_at s epoch number == 0))) (not_led s lead t e of)
others_fail s lead (Remove t going epoch number created) e of = ap (λ (b : Bool). b && ((s.epoch == going) && (created_at s epoch number == created))) (not_led s lead t e of)
others_fail s lead (Switch t going) e of = ap (λ (b : Bool). b && (s.epoch == going)) (not_led s lead t e of)
others_fail s lead (Forget t epoch) e of = not_led s lead t e of

alone_step : (s : Store) (lead : Lead) (r : Request) (steps : List Step) (b : Bool) → is_of lead.term r ≡ b → s.leader ≡ Some lead → ((t : Store) → t.leader ≡ Some lead → run t steps ≡ run t (those_of lead.term steps))
    → run (after s r) steps ≡ run s (cond b (Asks r ∷ those_of lead.term steps) (those_of lead.term steps))
alone_step s lead r steps true of e later = later (after s r) (leader_kept s lead.term r of ∙ e)
alone_step s lead r steps false of e later = ap (λ (t : Store). run t steps) (unchanged s r (others_fail s lead r e of)) ∙ later s e

or_false : (a b : Bool) → (a || b) ≡ false → (a ≡ false) × (b ≡ false)
or_false true b h = absurd (cc h)
or_false false b h = (refl, h)

pub the_leader_alone : TheLeaderAlone
the_leader_alone s lead [] e lasts = refl
the_leader_alone s lead (Asks r ∷ steps) e lasts = alone_step s lead r steps (is_of lead.term r) refl e (λ t f. the_leader_alone t lead steps f (or_false false (list_any (ends_lease lead.lease) steps) lasts).1)
the_leader_alone s lead (Ends l ∷ steps) e lasts =
    let parts = or_false (lead.lease == l) (list_any (ends_lease lead.lease) steps) lasts in
    let leads_on : unled s.leader l ≡ Some lead = ap (λ (o : Option Lead). unled o l) e ∙ ap (λ (b : Bool). cond b None (Some lead)) parts.0 in
    the_leader_alone (next s (Ends l)) lead steps leads_on parts.1
