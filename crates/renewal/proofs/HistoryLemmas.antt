-- Each stretch of a history is good, and books in later rounds than those before it.
use Rattle.std.proofs.Common.{◌≡◌, ℕ, ◌+◌, ◌≤◌, List, [], ◌∷◌, true, Option, Some, None, All, length, refl, sym, ap, subst, ◌∙◌, arith}
use Rattle.std.specs.Prelude.{AllPairs, is_some, if◌then◌else◌, slice_get}
use Rattle.std.specs.Option.{option_map_or}
use Rattle.std.proofs.lemmas.List.Elements.{All-cons, All-nil}
use Rattle.std.proofs.lemmas.List.Kept.{AllPairs-cons}
use Rattle.handover.specs.Handover.{holder_in, only}
use Rattle.scrape_books.specs.Kept.{BookedOnce}
use Rattle.scrape_books.specs.declared.report.Entry.{Entry}
use Rattle.fleet.specs.Changes.{relisted}
use Rattle.fleet.specs.Fleet.{FleetState}
use Rattle.fleet.specs.Jobs.{are_jobs, job_named}
use Rattle.fleet.specs.declared.job.JobSpec.{JobSpec}
use Rattle.fleet_assignment.specs.Best.{IsOnce}
use Rattle.fleet_events.specs.declared.event.Event.{Event}
use Rattle.fleet_events.specs.declared.event.Event.TheVariants.{Discover, Join, Leave, Drain, SetLimits, Install, Spread, NextRound, Take, Serve, Release, Report}
use Rattle.fleet_events.specs.declared.refusal.Refusal.{Refusal}
use Rattle.fleet_renewal.specs.Renewed.{carried, renewed_fleet}
use Rattle.fleet_renewal.proofs.Gets.{all_at}
use Rattle.fleet_assignment.specs.Laws.{PlanLaws}
use Rattle.allocation_core.specs.Booked.{WasBooked}
use Rattle.allocation_core.specs.Kept.{IsKept}
use Rattle.allocation_core.specs.Renewed.{renewal_refusal, renewed}
use Rattle.allocation_core.specs.Runs.{state_of}
use Rattle.allocation_core.specs.State.{State, current_pairs, first_state}
use Rattle.allocation_core.specs.Steps.{changed, refusal_of, state_after}
use Rattle.allocation_core.proofs.BestLemmas.{last_once, run_best, step_once}
use Rattle.allocation_core.proofs.BookedLemmas.{run_booked, run_held, run_once}
use Rattle.allocation_core.proofs.RenewedLemmas.{free_fleet, renewed_state_kept}
use Rattle.allocation_core.proofs.StepLemmas.{run_kept, start_kept}
use Rattle.renewal.specs.Histories.{AreGood, AreGranted, HistoriesAreGood, IsBefore, IsGood, Stretch, books_of, stretch_end}
use Rattle.renewal.proofs.Apart.{carried_once}
use Rattle.renewal.proofs.TextLemmas.{once_by_text}

run_alone : PlanLaws → (m : State) (es : List Event) → All IsOnce m.published → All IsOnce (state_of m es).published
run_alone laws m [] once = once
run_alone laws m (e ∷ es) once = run_alone laws (state_after m e) es (step_once laws m e once)

nothing_held : (m : State) → m.booked ≡ [] → All (λ (b : ℕ × Entry). holder_in m.published b.1.number b.0 ≡ Some b.1.collector) m.booked
nothing_held m none = subst (λ (bs : List (ℕ × Entry)). All (λ (b : ℕ × Entry). holder_in m.published b.1.number b.0 ≡ Some b.1.collector) bs) (sym none) (All-nil (λ (b : ℕ × Entry). holder_in m.published b.1.number b.0 ≡ Some b.1.collector))

nothing_twice : (booked : List (ℕ × Entry)) → booked ≡ [] → BookedOnce booked
nothing_twice booked none = subst BookedOnce (sym none) (λ i j d less within. absurd (omega arith))

-- what starts a stretch
pub record Starts (m : State) : Type 0 where
  pub kept : IsKept m
  pub alone : All IsOnce m.published
  pub unbooked : m.booked ≡ []
  pub named : are_jobs m.fleet.jobs ≡ true

-- ---- the jobs stay over events, and rounds do not fall

jobs_by : (m n : State) (o : Option Refusal) → n.fleet.jobs ≡ m.fleet.jobs → (if is_some o then m else n).fleet.jobs ≡ m.fleet.jobs
jobs_by m n None e = e
jobs_by m n (Some r) e = refl

listed_by : (fleet : FleetState) (f : ℕ → FleetState) (o : Option ℕ) → ((job : ℕ) → (f job).jobs ≡ fleet.jobs) → (option_map_or f o fleet).jobs ≡ fleet.jobs
listed_by fleet f None same = refl
listed_by fleet f (Some job) same = same job

changed_jobs : (m : State) (e : Event) → (changed m e).fleet.jobs ≡ m.fleet.jobs
changed_jobs m (Discover name source targets) = listed_by m.fleet (λ (job : ℕ). relisted m.fleet job source targets) (job_named m.fleet.jobs name) (λ job. refl)
changed_jobs m (Join name reach limits) = refl
changed_jobs m (Leave id) = refl
changed_jobs m (Drain id) = refl
changed_jobs m (SetLimits id limits) = refl
changed_jobs m (Install plan) = refl
changed_jobs m (Spread spread) = refl
changed_jobs m NextRound = refl
changed_jobs m (Take id) = refl
changed_jobs m (Serve id name) = refl
changed_jobs m (Release id name) = refl
changed_jobs m (Report report) = refl

step_jobs : (m : State) (e : Event) → (state_after m e).fleet.jobs ≡ m.fleet.jobs
unfolding state_after
step_jobs m e = jobs_by m (changed m e) (refusal_of m e) (changed_jobs m e)

pub run_jobs : (m : State) (es : List Event) → (state_of m es).fleet.jobs ≡ m.fleet.jobs
run_jobs m [] = refl
run_jobs m (e ∷ es) = run_jobs (state_after m e) es ∙ step_jobs m e

round_by : (m n : State) (o : Option Refusal) → m.round ≤ n.round → m.round ≤ (if is_some o then m else n).round
round_by m n None l = l
round_by m n (Some r) l = omega arith

changed_round : (m : State) (e : Event) → m.round ≤ (changed m e).round
changed_round m (Discover name source targets) = omega arith
changed_round m (Join name reach limits) = omega arith
changed_round m (Leave id) = omega arith
changed_round m (Drain id) = omega arith
changed_round m (SetLimits id limits) = omega arith
changed_round m (Install plan) = omega arith
changed_round m (Spread spread) = omega arith
changed_round m NextRound = omega arith
changed_round m (Take id) = omega arith
changed_round m (Serve id name) = omega arith
changed_round m (Release id name) = omega arith
changed_round m (Report report) = omega arith

step_round : (m : State) (e : Event) → m.round ≤ (state_after m e).round
unfolding state_after
step_round m e = round_by m (changed m e) (refusal_of m e) (changed_round m e)

pub run_round : (m : State) (es : List Event) → m.round ≤ (state_of m es).round
run_round m [] = omega arith
run_round m (e ∷ es) = omega (arith, run_round (state_after m e) es, step_round m e)

-- the round in which it began stays
begun_by : (m n : State) (o : Option Refusal) → n.begun ≡ m.begun → (if is_some o then m else n).begun ≡ m.begun
begun_by m n None e = e
begun_by m n (Some r) e = refl

changed_begun : (m : State) (e : Event) → (changed m e).begun ≡ m.begun
changed_begun m (Discover name source targets) = refl
changed_begun m (Join name reach limits) = refl
changed_begun m (Leave id) = refl
changed_begun m (Drain id) = refl
changed_begun m (SetLimits id limits) = refl
changed_begun m (Install plan) = refl
changed_begun m (Spread spread) = refl
changed_begun m NextRound = refl
changed_begun m (Take id) = refl
changed_begun m (Serve id name) = refl
changed_begun m (Release id name) = refl
changed_begun m (Report report) = refl

step_begun : (m : State) (e : Event) → (state_after m e).begun ≡ m.begun
unfolding state_after
step_begun m e = begun_by m (changed m e) (refusal_of m e) (changed_begun m e)

run_begun : (m : State) (es : List Event) → (state_of m es).begun ≡ m.begun
run_begun m [] = refl
run_begun m (e ∷ es) = run_begun (state_after m e) es ∙ step_begun m e

pub good : PlanLaws → (m : State) (es : List Event) → Starts m → IsGood m es
good laws m es starts =
    let kept = run_kept m es starts.kept in
    let booked : (place : ℕ) (b : ℕ × Entry) → slice_get (state_of m es).booked place ≡ Some b → WasBooked m es place b =
    λ place b there. run_booked m es place b (omega (arith, ap (λ (bs : List (ℕ × Entry)). length bs) starts.unbooked)) there in
    record {
      kept = kept;
      best = λ place low high. run_best laws m es place starts.kept starts.alone low high;
      booked = booked;
      held = run_held m es (nothing_held m starts.unbooked);
      once = once_by_text m es kept (ap are_jobs (run_jobs m es) ∙ starts.named) booked (run_once m es (nothing_twice m.booked starts.unbooked));
      current = last_once (state_of m es).published (run_alone laws m es starts.alone);
    }

pub first_starts : (jobs : List JobSpec) (report_rounds : ℕ) → are_jobs jobs ≡ true → Starts (first_state jobs report_rounds)
first_starts jobs report_rounds named = record { kept = start_kept jobs report_rounds; alone = All-nil IsOnce; unbooked = refl; named = named }

only_alone : (pairs : List (ℕ × ℕ)) → IsOnce pairs → All IsOnce (only pairs)
only_alone [] once = All-nil IsOnce
only_alone (q ∷ pairs) once = All-cons IsOnce (q ∷ pairs) [] once (All-nil IsOnce)

pub renewed_starts : (m : State) (jobs : List JobSpec) (report_rounds : ℕ) → IsKept m → IsOnce (current_pairs m) → are_jobs m.fleet.jobs ≡ true → renewal_refusal m jobs ≡ None → Starts (renewed m jobs report_rounds)
unfolding renewed renewed_fleet
renewed_starts m jobs report_rounds kept once named free =
    record { kept = renewed_state_kept m jobs report_rounds kept named free; alone = only_alone (carried m.fleet (current_pairs m) m.served.slots jobs) (carried_once m.fleet (current_pairs m) m.served.slots jobs once); unbooked = refl; named = (free_fleet m jobs free).good }

-- ---- over stretches

renewed_jobs : (m : State) (jobs : List JobSpec) (report_rounds : ℕ) → (renewed m jobs report_rounds).fleet.jobs ≡ jobs
unfolding renewed renewed_fleet
renewed_jobs m jobs report_rounds = refl

renewed_round : (m : State) (jobs : List JobSpec) (report_rounds : ℕ) → (renewed m jobs report_rounds).round ≡ m.round + 1
unfolding renewed
renewed_round m jobs report_rounds = refl

renewed_begun : (m : State) (jobs : List JobSpec) (report_rounds : ℕ) → (renewed m jobs report_rounds).begun ≡ m.round + 1
unfolding renewed
renewed_begun m jobs report_rounds = refl

end_named : (m : State) (stretch : Stretch) → are_jobs stretch.jobs ≡ true → are_jobs (stretch_end m stretch).fleet.jobs ≡ true
end_named m stretch named = ap are_jobs (run_jobs (renewed m stretch.jobs stretch.report_rounds) stretch.events ∙ renewed_jobs m stretch.jobs stretch.report_rounds) ∙ named

pub all_good : PlanLaws → (m : State) (stretches : List Stretch) → IsKept m → IsOnce (current_pairs m) → are_jobs m.fleet.jobs ≡ true → AreGranted m stretches → AreGood m stretches
all_good laws m [] kept once named granted = tt
all_good laws m (stretch ∷ stretches) kept once named granted =
    let fine = good laws (renewed m stretch.jobs stretch.report_rounds) stretch.events (renewed_starts m stretch.jobs stretch.report_rounds kept once named granted.0) in
    (fine, all_good laws (stretch_end m stretch) stretches fine.kept fine.current (end_named m stretch (free_fleet m stretch.jobs granted.0).good) granted.1)

-- every booked round is from this one on
abbrev pub AreFrom : ℕ → List (ℕ × Entry) → Type 0
AreFrom low booked = (i : ℕ) (b : ℕ × Entry) → slice_get booked i ≡ Some b → low ≤ b.1.round

from_start : (m : State) (es : List Event) → IsGood m es → AreFrom m.begun (state_of m es).booked
from_start m es fine i b here = (let was = fine.booked i b here in omega (arith, run_begun m was.earlier, was.opened))

later_books : (low : ℕ) (m : State) (stretches : List Stretch) → low ≤ m.round → AreFrom low m.booked → AreGood m stretches → All (AreFrom low) (books_of m stretches)
later_books low m [] l from fine = All-cons (AreFrom low) m.booked [] from (All-nil (AreFrom low))
later_books low m (stretch ∷ stretches) l from fine =
    let start = renewed m stretch.jobs stretch.report_rounds in
    let first = from_start start stretch.events fine.0 in
    All-cons (AreFrom low) m.booked (books_of (stretch_end m stretch) stretches) from
    (later_books low (stretch_end m stretch) stretches (omega (arith, l, renewed_round m stretch.jobs stretch.report_rounds, run_round start stretch.events)) (λ i b here. omega (arith, first i b here, l, renewed_begun m stretch.jobs stretch.report_rounds)) fine.1)

past_all : (m : State) (i : ℕ) (b : ℕ × Entry) → IsKept m → slice_get m.booked i ≡ Some b → b.1.round ≤ m.round
past_all m i b kept here = all_at (λ (x : ℕ × Entry). x.1.round ≤ m.round) m.booked i b kept.past_rounds here

pub books_apart : (m : State) (stretches : List Stretch) → IsKept m → AreGood m stretches → AllPairs IsBefore (books_of m stretches)
books_apart m [] kept fine = λ i j d less within. absurd (omega arith)
books_apart m (stretch ∷ stretches) kept fine =
    let start = renewed m stretch.jobs stretch.report_rounds in
    let next = stretch_end m stretch in
    let first = from_start start stretch.events fine.0 in
    let low = m.round + 1 in
    let later = later_books low next stretches (omega (arith, renewed_round m stretch.jobs stretch.report_rounds, run_round start stretch.events)) (λ i b here. omega (arith, first i b here, renewed_begun m stretch.jobs stretch.report_rounds)) fine.1 in
    AllPairs-cons IsBefore m.booked (books_of next stretches) (λ k d less i j a b here there. omega (arith, past_all m i a kept here, later k d less j b there)) (books_apart next stretches fine.0.kept fine.1)

pub histories : PlanLaws → HistoriesAreGood
histories laws jobs report_rounds events stretches named granted =
    let m = state_of (first_state jobs report_rounds) events in
    let first = good laws (first_state jobs report_rounds) events (first_starts jobs report_rounds named) in
    let rest = all_good laws m stretches first.kept first.current (ap are_jobs (run_jobs (first_state jobs report_rounds) events) ∙ named) granted in
    (first, rest, books_apart m stretches first.kept rest)
