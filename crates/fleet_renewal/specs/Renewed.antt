-- The fleet that goes on under a new list of jobs: what nobody needs is forgotten, the rest is numbered anew in its old order.
use Rattle.std.specs.Prelude.{◌≡◌, ℕ, nat_lt, ◌*◌, ◌-◌, ◌==◌, ◌&&◌, ◌||◌, not, Bool, false, if◌then◌else◌, List, [], ◌++◌, length, map, filter, take, replicate, Option, Some, None, is_some, option_and_then, slice_get, slice_index_or}
use Rattle.std.specs.List.{filter_map, list_any}
use Rattle.std.specs.Option.{option_map, option_map_or}
use Rattle.reach_rules.specs.OwnLimits.{LimitList}
use Rattle.fleet.specs.Fleet.{FleetState, is_joined, is_live}
use Rattle.fleet.specs.Jobs.{are_jobs, is_job, job_named}
use Rattle.fleet.specs.Live.{chosen_below, count_below}
use Rattle.fleet.specs.declared.job.JobSpec.{JobSpec}
use Rattle.fleet.specs.declared.known_target.KnownTarget.{KnownTarget}
use Rattle.fleet.specs.declared.collector.Collector.{Collector}
use Rattle.fleet.specs.declared.limits.TheConstants.{MOST_BINS}
use Rattle.served_lists.specs.Served.{slot_of}
use Rattle.fleet_renewal.specs.declared.error.RenewError.{RenewError}
use Rattle.fleet_renewal.specs.declared.error.RenewError.TheVariants.{BadJobs, Memory, TooManyBins}

-- the first reason against a renewal
abbrev pub fleet_refusal : FleetState → List JobSpec → Option RenewError
fleet_refusal fleet jobs = if are_jobs jobs then (if nat_lt MOST_BINS (length jobs * length fleet.collectors) then Some TooManyBins else None) else Some BadJobs

-- what a refused renewal says: the first reason against it, or that memory was wanted where there is none
abbrev pub IsWhyNot : Option RenewError → RenewError → Type 0
IsWhyNot None why = why ≡ Memory
IsWhyNot (Some refusal) why = why ≡ refusal

-- for each old job the place of its name in the new list
abbrev pub new_places : List JobSpec → List JobSpec → List (Option ℕ)
new_places old new = map (λ (job : JobSpec). job_named new job.name) old

abbrev pub place_at : List (Option ℕ) → ℕ → Option ℕ
place_at places job = slice_index_or places job None

-- the job of the known target of a number stands in the new list
abbrev pub has_place : List KnownTarget → List (Option ℕ) → ℕ → Bool
has_place known places target = option_map_or (λ (k : KnownTarget). is_some (place_at places k.job)) (slice_get known target) false

-- a live collector holds the target
abbrev pub is_held : FleetState → List (ℕ × ℕ) → ℕ → Bool
is_held fleet pairs target = list_any (λ (q : ℕ × ℕ). (q.0 == target) && is_joined fleet q.1) pairs

-- a list that was served has the target
abbrev pub is_served : List ℕ → ℕ → Bool
is_served slots target = not (slot_of slots target == 0)

-- A known target goes on where its job stands in the new list, and it is live, held by a live collector or in a list that was served.
abbrev pub survives : FleetState → List (ℕ × ℕ) → List ℕ → List JobSpec → ℕ → Bool
survives fleet pairs slots jobs target = has_place fleet.known (new_places fleet.jobs jobs) target && (is_live fleet target || is_held fleet pairs target || is_served slots target)

-- the new number of a target that goes on: how many before it do
abbrev pub new_number : (ℕ → Bool) → ℕ → Option ℕ
new_number stays target = if stays target then Some (count_below stays target) else None

-- a known target under the new place of its job
abbrev pub moved : List (Option ℕ) → KnownTarget → Option KnownTarget
moved places known = option_map (λ (job : ℕ). (let k : KnownTarget = record { job = job; target = known.target } in k)) (place_at places known.job)

abbrev pub moved_at : List KnownTarget → List (Option ℕ) → ℕ → Option KnownTarget
moved_at known places target = option_and_then (moved places) (slice_get known target)

-- the known targets that go on, in their old order
abbrev pub renewed_known : List KnownTarget → List (Option ℕ) → (ℕ → Bool) → List KnownTarget
renewed_known known places stays = filter_map (moved_at known places) (chosen_below stays (length known))

-- so many lists: the first ones, and empty ones behind them
abbrev pub fitted : ℕ → List (List ℕ) → List (List ℕ)
fitted count lists = take count lists ++ replicate (count - length lists) []

-- what the sources of the job of a name list
abbrev pub lists_named : FleetState → List ℕ → List (List ℕ)
lists_named fleet name = option_map_or (λ (job : ℕ). slice_index_or fleet.listed job []) (job_named fleet.jobs name) []

-- what the sources of a new job list: source by source as before, as far as both lists of jobs have it, in the new numbers
abbrev pub job_lists : FleetState → (ℕ → Option ℕ) → JobSpec → List (List ℕ)
job_lists fleet number job = fitted job.sources (map (filter_map number) (lists_named fleet job.name))

abbrev pub renewed_lists : FleetState → (ℕ → Option ℕ) → List JobSpec → List (List (List ℕ))
renewed_lists fleet number jobs = map (job_lists fleet number) jobs

-- the limits that are for one of the jobs
abbrev pub limits_for : List JobSpec → LimitList → LimitList
limits_for jobs limits = filter (λ (entry : List ℕ × ℕ). is_job jobs entry.0) limits

-- the collector, with its own limits as far as their jobs stand in the list
abbrev pub renewed_collector : List JobSpec → Collector → Collector
renewed_collector jobs c = record c { limits = limits_for jobs c.limits }

-- the pair in the new numbers, where its target goes on and its collector is live
abbrev pub carried_pair : FleetState → (ℕ → Option ℕ) → ℕ × ℕ → Option (ℕ × ℕ)
carried_pair fleet number q = if is_joined fleet q.1 then option_map (λ (n : ℕ). (n, q.1)) (number q.0) else None

-- the fleet after a renewal, where these pairs are the current allocation and these slots those of the lists that were served
unfoldable pub renewed_fleet : FleetState → List (ℕ × ℕ) → List ℕ → List JobSpec → FleetState
renewed_fleet fleet pairs slots jobs =
    record {
      jobs = jobs;
      listed = renewed_lists fleet (new_number (survives fleet pairs slots jobs)) jobs;
      known = renewed_known fleet.known (new_places fleet.jobs jobs) (survives fleet pairs slots jobs);
      collectors = map (renewed_collector jobs) fleet.collectors;
      last_collector = fleet.last_collector;
    }

-- the pairs that are carried over
unfoldable pub carried : FleetState → List (ℕ × ℕ) → List ℕ → List JobSpec → List (ℕ × ℕ)
carried fleet pairs slots jobs = filter_map (carried_pair fleet (new_number (survives fleet pairs slots jobs))) pairs

-- the slots that are carried over: those of the targets that go on, in their old order, one for each
unfoldable pub renewed_slots : FleetState → List (ℕ × ℕ) → List ℕ → List JobSpec → List ℕ
renewed_slots fleet pairs slots jobs = map (slot_of slots) (chosen_below (survives fleet pairs slots jobs) (length fleet.known))
