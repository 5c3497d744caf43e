-- What an event does to the state, and that what holds at every moment holds after it.
use Rattle.std.proofs.Common.{◌≡◌, ℕ, ◌+◌, ◌≤◌, ◌⊎◌, List, [], ◌∷◌, ◌++◌, All, Bool, true, false, Option, Some, None, cond, length, refl, sym, ap, ◌∙◌, ◌<◌, inl, inr, arith, append_assoc, length-append}
use Rattle.std.specs.Prelude.{nat_le, nat_lt, is_some, if◌then◌else◌}
use Rattle.std.specs.List.{list_any}
use Rattle.std.specs.Option.{option_map, option_map_or}
use Rattle.std.proofs.lemmas.Bool.{and_parts, leb-true}
use Rattle.std.proofs.lemmas.List.{append-nil}
use Rattle.std.proofs.lemmas.List.Elements.{All-push}
use borrow.Author.Tests.{ltb-true}
use Rattle.price_certificate.specs.Faults.{fault_of}
use Rattle.price_certificate.specs.Derived.{capped}
use Rattle.price_certificate.specs.Problem.{Problem}
use Rattle.price_certificate.specs.declared.plan.Plan.{Plan}
use Rattle.price_certificate.specs.declared.verdict.Fault.{Fault}
use Rattle.spread_certificate.specs.Judged.{spread_fault}
use Rattle.spread_certificate.specs.declared.spread.Spread.{Spread as SpreadPlan}
use Rattle.spread_certificate.specs.declared.verdict.SpreadFault.{SpreadFault}
use Rattle.handover.specs.Handover.{with_taken}
use Rattle.scrape_books.specs.declared.report.Entry.{Entry}
use Rattle.fleet.specs.Jobs.{job_named}
use Rattle.fleet.specs.KnownTarget.{known_with, same_known, with_known}
use Rattle.fleet.specs.declared.known_target.KnownTarget.{KnownTarget}
use Rattle.label_sets.specs.Target.{FinalTarget}
use Rattle.served_lists.specs.Served.{Served as Lists, with_list, without_list}
use Rattle.served_lists.proofs.SlotLemmas.{length-with_list, length-without_list, with_list-all, without_list-all}
use Rattle.fleet.specs.Changes.{join_refusal, list_refusal, relisted, with_collector, with_draining, with_draining_at, with_limits, with_limits_at, with_listing, without_collector}
use Rattle.fleet.specs.Fleet.{FleetState, first_fleet}
use Rattle.fleet.specs.IsFleet.{IsFleet}
use Rattle.fleet.specs.declared.collector.Collector.{Collector}
use Rattle.fleet.specs.declared.job.JobSpec.{JobSpec}
use Rattle.fleet.specs.declared.outcome.JoinRefusal.{JoinRefusal}
use Rattle.fleet.specs.declared.outcome.ListRefusal.{ListRefusal}
use Rattle.fleet.proofs.ChangeLemmas.{collector_kept, listing_kept}
use Rattle.fleet.proofs.KeptLemmas.{changed_kept as fleet_changed_kept, first_kept as fleet_first_kept, leave_kept}
use Rattle.fleet_events.specs.declared.answer.Answer.TheVariants.{Published}
use Rattle.fleet_events.specs.declared.event.Event.{Event}
use Rattle.fleet_events.specs.declared.event.Event.TheVariants.{Discover, Join, Leave, Drain, SetLimits, Install, Spread, NextRound, Take, Serve, Release, Report}
use Rattle.fleet_events.specs.declared.refusal.Refusal.{Refusal}
use Rattle.fleet_events.specs.declared.refusal.Refusal.TheVariants.{UnknownCollector, Unchanged, NumbersSpent}
use Rattle.allocation_core.specs.State.{State, allocation_at, current_of, current_pairs, first_state, held_live, instance_at, served_at, was_given, with_rounds}
use Rattle.allocation_core.specs.Steps.{answer_by, answer_of, changed, entry_of, number_refusal, plan_refusal, place_named, place_of, refusal_of, same_pairs, spread_refusal, state_after, unjoined, unless_served, unlisted, with_plan}
use Rattle.handover.specs.declared.holders.TheConstants.{LAST_NUMBER}
use Rattle.allocation_core.specs.Runs.{state_of}
use Rattle.allocation_core.specs.Kept.{IsKept}
use Rattle.allocation_core.proofs.AnswerLemmas.{admitted}

-- an event that changes the state was not refused
after_by : (m n : State) (P : State → Type 0) (o : Option Refusal) → P m → (o ≡ None → P n) → P (if is_some o then m else n)
after_by m n P None old new = new refl
after_by m n P (Some r) old new = old

number_by : (same lt : Bool) (u : Refusal) → cond same (Some u) (cond lt None (Some NumbersSpent)) ≡ None → lt ≡ true
number_by true lt u e = cc
number_by false true u e = refl
number_by false false u e = cc

plan_by : (m : State) (plan : Plan) (f : Option Fault) → plan_refusal m plan f ≡ None → (f ≡ None) × (number_refusal m (allocation_at m plan.pairs) ≡ None)
plan_by m plan None e = (refl, e)
plan_by m plan (Some fault) e = cc

spread_by : (m : State) (spread : SpreadPlan) (f : Option SpreadFault) → spread_refusal m spread f ≡ None → (f ≡ None) × (number_refusal m (allocation_at m spread.plan.pairs) ≡ None)
spread_by m spread None e = (refl, e)
spread_by m spread (Some fault) e = cc

published_kept : (m : State) (problem : Problem) (plan : Plan) → IsKept m → number_refusal m (allocation_at m plan.pairs) ≡ None → IsKept (with_plan m problem plan)
published_kept m problem plan kept e =
    let free = number_by (same_pairs (allocation_at m plan.pairs) (current_pairs m)) (nat_lt (current_of m) LAST_NUMBER) (Unchanged (current_of m)) e in
    record {
      fleet = kept.fleet;
      few_published = omega (arith, length-append m.published (allocation_at m plan.pairs ∷ []), ltb-true (current_of m) LAST_NUMBER free);
      few_slots = kept.few_slots;
      given_slots = kept.given_slots;
      opened = kept.opened;
      from_one = kept.from_one;
      begun = kept.begun;
      past_rounds = kept.past_rounds;
    }

-- another fleet, of which not fewer targets are known, nor fewer collectors joined
fleet_kept : (m : State) (fleet : FleetState) → IsKept m → IsFleet fleet → length m.fleet.known ≤ length fleet.known → m.fleet.last_collector ≤ fleet.last_collector → IsKept (record m { fleet = fleet })
fleet_kept m fleet kept sound known joined =
    record {
      fleet = sound;
      few_published = kept.few_published;
      few_slots = omega (arith, kept.few_slots, known);
      given_slots = λ k d l. omega (arith, kept.given_slots k d l, joined);
      opened = kept.opened;
      from_one = kept.from_one;
      begun = kept.begun;
      past_rounds = kept.past_rounds;
    }

-- known targets stay in front
pub record Grown (known later : List KnownTarget) : Type 0 where
  pub more : List KnownTarget
  pub is : later ≡ known ++ more

with_grown : (b : Bool) (known : List KnownTarget) (k : KnownTarget) → Grown known (cond b known (known ++ k ∷ []))
with_grown true known k = record { more = []; is = sym (append-nil known) }
with_grown false known k = record { more = k ∷ []; is = refl }

known_grown : (known : List KnownTarget) (job : ℕ) (targets : List FinalTarget) → Grown known (known_with known job targets)
known_grown known job [] = record { more = []; is = sym (append-nil known) }
known_grown known job (target ∷ targets) =
    let k : KnownTarget = record { job = job; target = target } in
    let first = with_grown (list_any (same_known k) known) known k in
    let rest = known_grown (with_known known k) job targets in
    record { more = first.more ++ rest.more; is = rest.is ∙ ap (λ (ks : List KnownTarget). ks ++ rest.more) first.is ∙ append_assoc known first.more rest.more }

relisted_grown : (fleet : FleetState) (o : Option ℕ) (source : ℕ) (targets : List FinalTarget) → Grown fleet.known (option_map_or (λ (job : ℕ). relisted fleet job source targets) o fleet).known
relisted_grown fleet None source targets = record { more = []; is = sym (append-nil fleet.known) }
relisted_grown fleet (Some job) source targets = known_grown fleet.known job targets

pub listing_grown : (fleet : FleetState) (name : List ℕ) (source : ℕ) (targets : List FinalTarget) → Grown fleet.known (with_listing fleet name source targets).known
listing_grown fleet name source targets = relisted_grown fleet (job_named fleet.jobs name) source targets

relisted_joined : (fleet : FleetState) (o : Option ℕ) (source : ℕ) (targets : List FinalTarget) → (option_map_or (λ (job : ℕ). relisted fleet job source targets) o fleet).last_collector ≡ fleet.last_collector
relisted_joined fleet None source targets = refl
relisted_joined fleet (Some job) source targets = refl

listed_kept : (m : State) (name : List ℕ) (source : ℕ) (targets : List FinalTarget) → IsKept m → IsFleet (with_listing m.fleet name source targets) → IsKept (record m { fleet = with_listing m.fleet name source targets })
listed_kept m name source targets kept sound =
    let grown = listing_grown m.fleet name source targets in
    fleet_kept m (with_listing m.fleet name source targets) kept sound
    (omega (arith, ap (λ (ks : List KnownTarget). length ks) grown.is, length-append m.fleet.known grown.more))
    (omega (arith, relisted_joined m.fleet (job_named m.fleet.jobs name) source targets))

-- other lists served last
lists_kept : (m : State) (served : Lists) → IsKept m → length served.slots ≤ length m.fleet.known → All (λ (c : ℕ). c ≤ m.fleet.last_collector) served.slots → IsKept (record m { served = served })
lists_kept m served kept few given =
    record {
      fleet = kept.fleet;
      few_published = kept.few_published;
      few_slots = few;
      given_slots = given;
      opened = kept.opened;
      from_one = kept.from_one;
      begun = kept.begun;
      past_rounds = kept.past_rounds;
    }

-- who is served joined once
pub given_when : (m : State) (id : ℕ) → was_given m id ≡ true → (0 < id) × (id ≤ m.fleet.last_collector)
given_when m id e = (let both = and_parts (nat_lt 0 id) (nat_le id m.fleet.last_collector) e in (ltb-true 0 id both.0, leb-true id m.fleet.last_collector both.1))

given_by : (b : Bool) → cond b (let n : Option Refusal = None in n) (Some UnknownCollector) ≡ None → b ≡ true
given_by true e = refl
given_by false e = cc

pub served_given : (m : State) (id job : ℕ) → unless_served m id (Some job) ≡ None → was_given m id ≡ true
served_given m id job e = given_by (was_given m id) e

pub with_list_kept : (m : State) (id job number : ℕ) (held : List ℕ) → IsKept m → was_given m id ≡ true → IsKept (record m { served = with_list m.fleet.known m.served id job number held })
with_list_kept m id job number held kept given =
    lists_kept m (with_list m.fleet.known m.served id job number held) kept
    (omega (arith, length-with_list m.fleet.known m.served id job number held))
    (with_list-all (λ (c : ℕ). c ≤ m.fleet.last_collector) m.fleet.known m.served id job number held (omega arith) (given_when m id given).1 kept.given_slots)

serve_kept : (m : State) (id : ℕ) (job : Option ℕ) → IsKept m → unless_served m id job ≡ None → IsKept (record m { served = served_at m id job })
serve_kept m id None kept free = kept
serve_kept m id (Some job) kept free = with_list_kept m id job (current_of m) (held_live m id) kept (served_given m id job free)

pub release_kept : (m : State) (id : ℕ) (job : Option ℕ) → IsKept m → IsKept (record m { served = without_list m.fleet.known m.served id job })
release_kept m id job kept =
    lists_kept m (without_list m.fleet.known m.served id job) kept
    (omega (arith, length-without_list m.fleet.known m.served id job, kept.few_slots))
    (without_list-all (λ (c : ℕ). c ≤ m.fleet.last_collector) m.fleet.known m.served id job (omega arith) kept.given_slots)

not_mapped : (o : Option ListRefusal) → option_map unlisted o ≡ None → o ≡ None
not_mapped None e = refl
not_mapped (Some r) e = cc

not_joined : (o : Option JoinRefusal) → option_map unjoined o ≡ None → o ≡ None
not_joined None e = refl
not_joined (Some r) e = cc

-- the same state in all that the other facts speak of
kept_with : (m : State) (taken : List (ℕ × ℕ)) (round : ℕ) (booked : List (ℕ × Entry)) → IsKept m → 1 ≤ round → m.begun ≤ round → All (λ (b : ℕ × Entry). b.1.round ≤ round) booked → IsKept (record m { taken = taken; round = round; booked = booked })
kept_with m taken round booked kept opened begun past =
    record {
      fleet = kept.fleet;
      few_published = kept.few_published;
      few_slots = kept.few_slots;
      given_slots = kept.given_slots;
      opened = opened;
      from_one = kept.from_one;
      begun = begun;
      past_rounds = past;
    }

-- of how many rounds reports are booked is of no matter
pub rounds_kept : (m : State) (report_rounds : ℕ) → IsKept m → IsKept (with_rounds report_rounds m)
rounds_kept m report_rounds kept =
    record {
      fleet = kept.fleet;
      few_published = kept.few_published;
      few_slots = kept.few_slots;
      given_slots = kept.given_slots;
      opened = kept.opened;
      from_one = kept.from_one;
      begun = kept.begun;
      past_rounds = kept.past_rounds;
    }

changed_kept : (m : State) (e : Event) → IsKept m → refusal_of m e ≡ None → IsKept (changed m e)
changed_kept m (Discover name source targets) kept free = listed_kept m name source targets kept (listing_kept m.fleet name source targets kept.fleet (not_mapped (list_refusal m.fleet name source targets) free))
changed_kept m (Join name reach limits) kept free = fleet_kept m (with_collector m.fleet name reach limits) kept (collector_kept m.fleet name reach limits kept.fleet (not_joined (join_refusal m.fleet name limits) free)) (omega arith) (omega arith)
changed_kept m (Leave id) kept free = fleet_kept m (without_collector m.fleet id) kept (leave_kept m.fleet (λ (c : Collector). _) kept.fleet) (omega arith) (omega arith)
changed_kept m (Drain id) kept free = fleet_kept m (with_draining m.fleet id) kept (fleet_changed_kept m.fleet (with_draining_at id) (λ c. refl) (λ c. refl) kept.fleet) (omega arith) (omega arith)
changed_kept m (SetLimits id limits) kept free = fleet_kept m (with_limits m.fleet id limits) kept (fleet_changed_kept m.fleet (with_limits_at id limits) (λ c. refl) (λ c. refl) kept.fleet) (omega arith) (omega arith)
changed_kept m (Install plan) kept free = published_kept m (instance_at m) plan kept (plan_by m plan (fault_of (instance_at m) plan.pairs plan.item_prices plan.bin_prices) free).1
changed_kept m (Spread spread) kept free = published_kept m (capped spread.caps (instance_at m)) spread.plan kept (spread_by m spread (spread_fault (instance_at m) spread) free).1
changed_kept m NextRound kept free = kept_with m m.taken (m.round + 1) m.booked kept (omega arith) (omega (arith, kept.begun)) (λ k d l. omega (arith, kept.past_rounds k d l))
changed_kept m (Take id) kept free = kept_with m (with_taken m.taken id (current_of m)) m.round m.booked kept kept.opened kept.begun kept.past_rounds
changed_kept m (Serve id name) kept free = serve_kept m id (place_of m name) kept free
changed_kept m (Release id name) kept free = release_kept m id (place_named m name) kept
changed_kept m (Report report) kept free =
    let b : ℕ × Entry = (report.target, entry_of report.collector report.allocation report.round report.outcome) in
    let reached = (admitted m report.collector report.allocation report.target report.round report.outcome free).reached in
    kept_with m m.taken m.round (m.booked ++ b ∷ []) kept kept.opened kept.begun (All-push (λ (x : ℕ × Entry). x.1.round ≤ m.round) m.booked b kept.past_rounds reached)

pub step_kept : (m : State) (e : Event) → IsKept m → IsKept (state_after m e)
unfolding state_after
step_kept m e kept = after_by m (changed m e) IsKept (refusal_of m e) kept (changed_kept m e kept)

pub first_kept : (m : State) → IsFleet m.fleet → m.published ≡ [] → m.served.slots ≡ [] → m.round ≡ 1 → m.booked ≡ [] → m.begun ≡ 1 → IsKept m
first_kept m fleet published slots round booked begun =
    record {
      fleet = fleet;
      few_published = rw published (omega arith);
      few_slots = rw slots (omega arith);
      given_slots = rw slots (λ k d less. absurd (omega arith));
      opened = omega (arith, round);
      from_one = omega (arith, begun);
      begun = omega (arith, begun, round);
      past_rounds = rw booked (λ k d less. absurd (omega arith));
    }

pub start_kept : (jobs : List JobSpec) (report_rounds : ℕ) → IsKept (first_state jobs report_rounds)
start_kept jobs report_rounds = first_kept (first_state jobs report_rounds) (fleet_first_kept (first_fleet jobs) refl refl refl refl) refl refl refl refl refl

pub run_kept : (m : State) (es : List Event) → IsKept m → IsKept (state_of m es)
run_kept m [] kept = kept
run_kept m (e ∷ es) kept = run_kept (state_after m e) es (step_kept m e kept)

-- an Install whose plan has no fault
pub record IsFineInstall (m : State) (e : Event) (pairs : List (ℕ × ℕ)) : Type 0 where
  pub plan : Plan
  pub is : e ≡ Install plan
  pub its : plan.pairs ≡ pairs
  pub fine : fault_of (instance_at m) plan.pairs plan.item_prices plan.bin_prices ≡ None

-- a Spread that has no fault
pub record IsFineSpread (m : State) (e : Event) (pairs : List (ℕ × ℕ)) : Type 0 where
  pub spread : SpreadPlan
  pub is : e ≡ Spread spread
  pub its : spread.plan.pairs ≡ pairs
  pub fine : spread_fault (instance_at m) spread ≡ None

-- an event publishes nothing, or the allocation of a plan that has no fault
pub record Publishes (m : State) (e : Event) : Type 0 where
  pub pairs : List (ℕ × ℕ)
  pub answered : answer_of m e ≡ Published (current_of m + 1)
  pub grown : (state_after m e).published ≡ m.published ++ allocation_at m pairs ∷ []
  pub fine : IsFineInstall m e pairs ⊎ IsFineSpread m e pairs

same_by : (m n : State) (o : Option Refusal) → n.published ≡ m.published → (if is_some o then m else n).published ≡ m.published
same_by m n None e = e
same_by m n (Some r) e = refl

-- an event that publishes, where nothing is against it, and what it gives
abbrev Gives : State → State → List (ℕ × ℕ) → Option Refusal → Type 0
Gives m n pairs o =
    (o ≡ None) × (answer_by o (Published (current_of m + 1)) ≡ Published (current_of m + 1)) × ((if is_some o then m else n).published ≡ m.published ++ allocation_at m pairs ∷ [])

gives_by : (m n : State) (pairs : List (ℕ × ℕ)) (o : Option Refusal) → n.published ≡ m.published ++ allocation_at m pairs ∷ [] → ((if is_some o then m else n).published ≡ m.published) ⊎ Gives m n pairs o
gives_by m n pairs None e = inr (refl, refl, e)
gives_by m n pairs (Some r) e = inl refl

pub publishes : (m : State) (e : Event) → ((state_after m e).published ≡ m.published) ⊎ Publishes m e
unfolding state_after answer_of
publishes m (Discover name source targets) = inl (same_by m _ (refusal_of m (Discover name source targets)) refl)
publishes m (Join name reach limits) = inl (same_by m _ (refusal_of m (Join name reach limits)) refl)
publishes m (Leave id) = inl (same_by m _ (refusal_of m (Leave id)) refl)
publishes m (Drain id) = inl (same_by m _ (refusal_of m (Drain id)) refl)
publishes m (SetLimits id limits) = inl (same_by m _ (refusal_of m (SetLimits id limits)) refl)
publishes m NextRound = inl (same_by m _ (refusal_of m NextRound) refl)
publishes m (Take id) = inl (same_by m _ (refusal_of m (Take id)) refl)
publishes m (Serve id name) = inl (same_by m _ (refusal_of m (Serve id name)) refl)
publishes m (Release id name) = inl (same_by m _ (refusal_of m (Release id name)) refl)
publishes m (Report report) = inl (same_by m _ (refusal_of m (Report report)) refl)
publishes m (Install plan) =
    elim (gives_by m (changed m (Install plan)) plan.pairs (refusal_of m (Install plan)) refl) [
      | inl same ↦ inl same
      | inr given ↦
          inr (record {
            pairs = plan.pairs;
            answered = given.1;
            grown = given.2;
            fine = inl (record { plan = plan; is = refl; its = refl; fine = (plan_by m plan (fault_of (instance_at m) plan.pairs plan.item_prices plan.bin_prices) given.0).0 });
          })
    ]
publishes m (Spread spread) =
    elim (gives_by m (changed m (Spread spread)) spread.plan.pairs (refusal_of m (Spread spread)) refl) [
      | inl same ↦ inl same
      | inr given ↦
          inr (record {
            pairs = spread.plan.pairs;
            answered = given.1;
            grown = given.2;
            fine = inr (record { spread = spread; is = refl; its = refl; fine = (spread_by m spread (spread_fault (instance_at m) spread) given.0).0 });
          })
    ]
