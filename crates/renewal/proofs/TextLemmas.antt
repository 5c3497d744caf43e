-- No target, by the name of its job and its text, has two reports of a round.
use Rattle.std.proofs.Common.{◌≡◌, ◌≢◌, ℕ, ◌<◌, ◌≤◌, List, [], ◌∷◌, Bool, true, false, Option, Some, None, cond, eqb, get_or, length, refl, sym, ap, ◌∙◌, inl, inr, arith, length-append}
use Rattle.std.specs.Prelude.{is_some, if◌then◌else◌, nat_lt, slice_get}
use Rattle.std.specs.Option.{option_map}
use Rattle.std.proofs.lemmas.Bool.{and_from, cases_eq, cases_lt, eq-eqb}
use Rattle.std.proofs.lemmas.Option.{slice_get-get_or}
use borrow.Author.Tests.{ltb-true}
use Rattle.label_sets.specs.Target.{target_text}
use Rattle.scrape_books.specs.Kept.{BookedOnce}
use Rattle.scrape_books.specs.declared.report.Entry.{Entry}
use Rattle.fleet.specs.Fleet.{FleetState, is_joined}
use Rattle.fleet.specs.IsFleet.{IsFleet}
use Rattle.fleet.specs.Jobs.{are_jobs, job_named}
use Rattle.fleet.specs.KnownTarget.{same_known}
use Rattle.fleet.specs.declared.job.JobSpec.{JobSpec}
use Rattle.fleet.specs.declared.known_target.KnownTarget.{KnownTarget}
use Rattle.fleet_events.specs.declared.answer.Answer.TheVariants.{Booked}
use Rattle.fleet_events.specs.declared.event.Event.{Event}
use Rattle.fleet_events.specs.declared.event.Event.TheVariants.{Discover, Join, Leave, Drain, SetLimits, Install, Spread, NextRound, Take, Serve, Release, Report}
use Rattle.fleet_events.specs.declared.refusal.Refusal.{Refusal}
use Rattle.fleet_events.specs.declared.refusal.Refusal.TheVariants.{NotTaken, UnknownCollector, UnknownTarget}
use Rattle.handover.specs.Handover.{holder_in}
use Rattle.fleet_renewal.proofs.Gets.{pairs_at, some_same}
use Rattle.fleet_renewal.proofs.JobLemmas.{job_here, name_same}
use Rattle.allocation_core.specs.Booked.{WasBooked, report_of}
use Rattle.allocation_core.specs.Kept.{IsKept}
use Rattle.allocation_core.specs.Runs.{state_of}
use Rattle.allocation_core.specs.State.{State}
use Rattle.allocation_core.specs.Steps.{answer_by, answer_of, changed, holder_refusal, number_for, refusal_of, report_refusal, state_after}
use Rattle.allocation_core.proofs.RunLemmas.{state_of_append}
use Rattle.allocation_core.proofs.StepLemmas.{listing_grown}
use Rattle.renewal.specs.Continuity.{job_name, text_of}
use Rattle.renewal.specs.Histories.{IsOnceByText}
use Rattle.renewal.proofs.Going.{name_at}

-- ---- a booked target is known

granted_by : (o : Option Refusal) → answer_by o Booked ≡ Booked → o ≡ None
granted_by None e = refl
granted_by (Some r) e = cc

joined_by : (b : Bool) (o : Option Refusal) → cond b o (Some UnknownCollector) ≡ None → o ≡ None
joined_by true o e = e
joined_by false o e = cc

known_by : (a b : Bool) (n : ℕ) (o : Option Refusal) → cond a (cond b o (Some UnknownTarget)) (Some (NotTaken n)) ≡ None → b ≡ true
known_by true true n o e = refl
known_by true false n o e = cc
known_by false b n o e = cc

was_known : (m : State) (b : ℕ × Entry) → answer_of m (report_of b) ≡ Booked → b.0 < length m.fleet.known
unfolding answer_of
was_known m b answered =
    let free = granted_by (refusal_of m (report_of b)) answered in
    let there = joined_by (is_joined m.fleet b.1.collector) (report_refusal m b.1.collector b.1.number b.0 b.1.round) free in
    ltb-true b.0 (length m.fleet.known) (known_by (eqb (number_for m b.1.collector b.0) b.1.number) (nat_lt b.0 (length m.fleet.known)) (number_for m b.1.collector b.0) (holder_refusal m (holder_in m.published b.1.number b.0) b.1.collector b.0 b.1.round) there)

changed_known : (m : State) (e : Event) → length m.fleet.known ≤ length (changed m e).fleet.known
changed_known m (Discover name source targets) =
    let grown = listing_grown m.fleet name source targets in
    omega (arith, ap (λ (ks : List KnownTarget). length ks) grown.is, length-append m.fleet.known grown.more)
changed_known m (Join name reach limits) = omega arith
changed_known m (Leave id) = omega arith
changed_known m (Drain id) = omega arith
changed_known m (SetLimits id limits) = omega arith
changed_known m (Install plan) = omega arith
changed_known m (Spread spread) = omega arith
changed_known m NextRound = omega arith
changed_known m (Take id) = omega arith
changed_known m (Serve id name) = omega arith
changed_known m (Release id name) = omega arith
changed_known m (Report report) = omega arith

step_by : (m n : State) (o : Option Refusal) → length m.fleet.known ≤ length n.fleet.known → length m.fleet.known ≤ length (if is_some o then m else n).fleet.known
step_by m n None l = l
step_by m n (Some r) l = omega arith

step_known : (m : State) (e : Event) → length m.fleet.known ≤ length (state_after m e).fleet.known
unfolding state_after
step_known m e = step_by m (changed m e) (refusal_of m e) (changed_known m e)

run_known : (m : State) (es : List Event) → length m.fleet.known ≤ length (state_of m es).fleet.known
run_known m [] = omega arith
run_known m (e ∷ es) = omega (arith, step_known m e, run_known (state_after m e) es)

pub booked_known : (start : State) (events : List Event) (place : ℕ) (b : ℕ × Entry) → WasBooked start events place b → b.0 < length (state_of start events).fleet.known
booked_known start events place b was =
    let before = state_of start was.earlier in
    let rest = run_known before (report_of b ∷ was.later) in
    let whole : state_of start events ≡ state_of before (report_of b ∷ was.later) = ap (state_of start) was.split ∙ state_of_append start was.earlier (report_of b ∷ was.later) in
    omega (arith, was_known before b was.answered, rest, ap (λ (m : State). length m.fleet.known) whole)

-- ---- of known targets the name of the job and the text tell which it is

pub record IsKnownAs (fleet : FleetState) (target : ℕ) : Type 0 where
  pub known : KnownTarget
  pub job : JobSpec
  pub here : slice_get fleet.known target ≡ Some known
  pub there : slice_get fleet.jobs known.job ≡ Some job

known_as : (fleet : FleetState) (target : ℕ) → IsFleet fleet → target < length fleet.known → KnownTarget → JobSpec → IsKnownAs fleet target
known_as fleet target kept within k j =
    let known = get_or fleet.known target k in
    let here : slice_get fleet.known target ≡ Some known = slice_get-get_or fleet.known target k within in
    let home : known.job < length fleet.jobs = kept.homes target k within in
    record { known = known; job = get_or fleet.jobs known.job j; here = here; there = slice_get-get_or fleet.jobs known.job j home }

same_by : (a b : KnownTarget) → b.job ≡ a.job → target_text b.target ≡ target_text a.target → same_known b a ≡ true
same_by a b job text = and_from _ _ (eq-eqb b.job a.job job) (name_same (target_text b.target) (target_text a.target) text)

not_both : (b : Bool) → b ≡ true → b ≡ false → ⊥
not_both true e f = cc
not_both false e f = cc

pub told_apart : (fleet : FleetState) (s t : ℕ) → IsFleet fleet → are_jobs fleet.jobs ≡ true → s < length fleet.known → t < length fleet.known → job_name fleet s ≡ job_name fleet t → text_of fleet s ≡ text_of fleet t → s ≡ t
told_apart fleet s t kept named low high job text =
    let none : KnownTarget = record { job = 0; target = record { address = []; labels = [] } } in
    let nobody : JobSpec = record { name = []; target_limit = 0; sources = 0 } in
    let a = known_as fleet s kept low none nobody in
    let b = known_as fleet t kept high none nobody in
    let names : a.job.name ≡ b.job.name = some_same a.job.name b.job.name (sym (name_at fleet s a.known a.job a.here a.there) ∙ job ∙ name_at fleet t b.known b.job b.here b.there) in
    let jobs : a.known.job ≡ b.known.job = some_same a.known.job b.known.job (sym (job_here fleet.jobs a.known.job a.job named a.there) ∙ ap (job_named fleet.jobs) names ∙ job_here fleet.jobs b.known.job b.job named b.there) in
    let texts : target_text a.known.target ≡ target_text b.known.target =
    some_same (target_text a.known.target) (target_text b.known.target) (sym (ap (option_map (λ (k : KnownTarget). target_text k.target)) a.here) ∙ text ∙ ap (option_map (λ (k : KnownTarget). target_text k.target)) b.here) in
    elim (cases_eq s t) [
      | inl e ↦ e
      | inr d ↦ elim (cases_lt s t) [
        | inl l ↦ absurd (not_both (same_known b.known a.known) (same_by a.known b.known (sym jobs) (sym texts)) (pairs_at (λ (x y : KnownTarget). same_known y x ≡ false) fleet.known s t a.known b.known kept.orderly.once l a.here b.here))
        | inr g ↦ absurd (not_both (same_known a.known b.known) (same_by b.known a.known jobs texts) (pairs_at (λ (x y : KnownTarget). same_known y x ≡ false) fleet.known t s b.known a.known kept.orderly.once (let r : t < s = omega arith in r) b.here a.here))
      ]
    ]

pub once_by_text :
    (start : State) (events : List Event) → IsKept (state_of start events) → are_jobs (state_of start events).fleet.jobs ≡ true → ((place : ℕ) (b : ℕ × Entry) → slice_get (state_of start events).booked place ≡ Some b → WasBooked start events place b)
    → BookedOnce (state_of start events).booked → IsOnceByText (state_of start events)
once_by_text start events kept named booked once i j a b less here there job text =
    let m = state_of start events in
    let same : a.0 ≡ b.0 = told_apart m.fleet a.0 b.0 kept.fleet named (booked_known start events i a (booked i a here)) (booked_known start events j b (booked j b there)) job text in
    pairs_at (λ (x y : ℕ × Entry). x.0 ≡ y.0 → x.1.round ≢ y.1.round) m.booked i j a b once less here there same
