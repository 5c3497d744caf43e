-- What goes on across a renewal.
use Rattle.std.specs.Prelude.{◌≡◌, ◌≤◌, ℕ, true, if◌then◌else◌, List, Option, Some, None, option_and_then, slice_get}
use Rattle.std.specs.Option.{option_map, option_map_or}
use Rattle.label_sets.specs.Target.{target_text}
use Rattle.reach_rules.specs.OwnLimits.{own_limit}
use Rattle.fleet.specs.Fleet.{FleetState, is_joined, is_live}
use Rattle.fleet.specs.Jobs.{are_jobs, is_job, job_named, sources_at}
use Rattle.fleet.specs.Live.{count_below}
use Rattle.fleet.specs.Reached.{reaches_at}
use Rattle.fleet.specs.declared.collector.Collector.{Collector}
use Rattle.fleet.specs.declared.job.JobSpec.{JobSpec}
use Rattle.fleet.specs.declared.known_target.KnownTarget.{KnownTarget}
use Rattle.fleet_assignment.specs.Beside.{beside}
use Rattle.fleet_assignment.specs.Best.{IsOnce}
use Rattle.fleet_renewal.specs.Renewed.{carried, is_served, renewed_collector, renewed_fleet, renewed_slots, survives}
use Rattle.served_lists.specs.Served.{slot_of}
use Rattle.allocation_core.specs.Kept.{IsKept}
use Rattle.allocation_core.specs.Renewed.{renewal_refusal, renewed}
use Rattle.allocation_core.specs.State.{State, current_pairs, instance_at}

-- the name of a known target's job
abbrev pub job_name : FleetState → ℕ → Option (List ℕ)
job_name fleet target = option_and_then (λ (k : KnownTarget). option_map (λ (job : JobSpec). job.name) (slice_get fleet.jobs k.job)) (slice_get fleet.known target)

-- the text of a known target
abbrev pub text_of : FleetState → ℕ → Option (List ℕ)
text_of fleet target = option_map (λ (k : KnownTarget). target_text k.target) (slice_get fleet.known target)

-- the live collector that holds a target
abbrev pub live_holder : FleetState → List (ℕ × ℕ) → ℕ → Option ℕ
live_holder fleet pairs target = option_and_then (λ (c : ℕ). if is_joined fleet c then Some c else None) (beside pairs target)

-- how many sources the job of a name has
abbrev pub sources_of : List JobSpec → List ℕ → ℕ
sources_of jobs name = option_map_or (λ (job : ℕ). sources_at jobs job) (job_named jobs name) 0

-- the target's job has as many sources as before, or more
abbrev pub KeepsSources : FleetState → List JobSpec → ℕ → Type 0
KeepsSources fleet jobs target = (name : List ℕ) → job_name fleet target ≡ Some name → sources_of fleet.jobs name ≤ sources_of jobs name

-- A target that goes on, under its new number.
pub record GoesOn (fleet : FleetState) (pairs : List (ℕ × ℕ)) (slots : List ℕ) (jobs : List JobSpec) (target : ℕ) : Type 0 where
  pub job : job_name (renewed_fleet fleet pairs slots jobs) (count_below (survives fleet pairs slots jobs) target) ≡ job_name fleet target
  pub text : text_of (renewed_fleet fleet pairs slots jobs) (count_below (survives fleet pairs slots jobs) target) ≡ text_of fleet target
  pub live : KeepsSources fleet jobs target → is_live (renewed_fleet fleet pairs slots jobs) (count_below (survives fleet pairs slots jobs) target) ≡ is_live fleet target
  pub reach : (place : ℕ) → reaches_at (renewed_fleet fleet pairs slots jobs) place (count_below (survives fleet pairs slots jobs) target) ≡ reaches_at fleet place target
  pub holder : beside (carried fleet pairs slots jobs) (count_below (survives fleet pairs slots jobs) target) ≡ live_holder fleet pairs target
  -- whose list has it
  pub slot : slot_of (renewed_slots fleet pairs slots jobs) (count_below (survives fleet pairs slots jobs) target) ≡ slot_of slots target

-- what goes on across a renewal that is not refused
pub record Continues (m : State) (jobs : List JobSpec) : Type 0 where
  pub targets : (target : ℕ) → survives m.fleet (current_pairs m) m.served.slots jobs target ≡ true → GoesOn m.fleet (current_pairs m) m.served.slots jobs target
  -- a live target of a job that stays goes on
  pub live : (target : ℕ) (name : List ℕ) → is_live m.fleet target ≡ true → job_name m.fleet target ≡ Some name → is_job jobs name ≡ true → survives m.fleet (current_pairs m) m.served.slots jobs target ≡ true
  -- and one that a list has
  pub served : (target : ℕ) (name : List ℕ) → is_served m.served.slots target ≡ true → job_name m.fleet target ≡ Some name → is_job jobs name ≡ true → survives m.fleet (current_pairs m) m.served.slots jobs target ≡ true
  -- each collector has the same own limit for each job of the list
  pub limits : (c : Collector) (name : List ℕ) → is_job jobs name ≡ true → own_limit (renewed_collector jobs c).limits name ≡ own_limit c.limits name

-- With the same jobs the instance is the same: its items, its bins and its pairs before.
abbrev pub RenewalsContinue : Type 0
RenewalsContinue = (m : State) → IsKept m → are_jobs m.fleet.jobs ≡ true → IsOnce (current_pairs m) → ((jobs : List JobSpec) → renewal_refusal m jobs ≡ None → Continues m jobs) × ((report_rounds : ℕ) → instance_at (renewed m m.fleet.jobs report_rounds) ≡ instance_at m)
