-- What a fleet is made of, and the first fault in it.
use Rattle.std.specs.Prelude.{ℕ, suc, ◌*◌, ◌==◌, List, [], ◌∷◌, ◌++◌, Bool, true, false, not, ◌&&◌, ◌||◌, nat_le, nat_lt, if◌then◌else◌, length, Option, Some, None}
use Rattle.std.specs.List.{list_all, list_any}
use Rattle.std.specs.Str.{bytes_eq}
use Rattle.lists.specs.Rising.{rises}
use Rattle.fleet.specs.Fleet.{FleetState, is_live}
use Rattle.fleet.specs.Jobs.{are_jobs}
use Rattle.fleet.specs.KnownTarget.{same_known}
use Rattle.fleet.specs.Live.{count_below}
use Rattle.fleet.specs.Orderly.{is_of}
use Rattle.fleet.specs.declared.collector.Collector.{Collector}
use Rattle.fleet.specs.declared.fleet_parts.FleetParts.{FleetParts}
use Rattle.fleet.specs.declared.error.PartsError.{PartsError}
use Rattle.fleet.specs.declared.error.PartsError.TheVariants.{BadJobs, BadTargets, BadLists, BadCollectors, RepeatedTarget}
use Rattle.fleet.specs.declared.job.JobSpec.{JobSpec}
use Rattle.fleet.specs.declared.known_target.KnownTarget.{KnownTarget}
use Rattle.fleet.specs.declared.limits.TheConstants.{LAST_COLLECTOR, MOST_BINS, MOST_COLLECTORS, MOST_KNOWN_TARGETS, MOST_LIVE_TARGETS}

-- the fleet of these parts
abbrev pub fleet_of : FleetParts → FleetState
fleet_of parts = record { jobs = parts.jobs; listed = parts.listed; known = parts.known; collectors = parts.collectors; last_collector = parts.last_collector }

-- none of the elements clashes with one before it
abbrev pub none_clash : {A : Type 0} → (A → A → Bool) → List A → List A → Bool
none_clash clash before [] = true
none_clash clash before (x ∷ xs) = not (list_any (clash x) before) && none_clash clash (before ++ x ∷ []) xs

-- there are not too many targets, each of one of so many jobs
abbrev pub are_targets : ℕ → List KnownTarget → Bool
are_targets jobs known = nat_le (length known) MOST_KNOWN_TARGETS && list_all (λ (k : KnownTarget). nat_lt k.job jobs) known

-- no target is the same as an earlier one
abbrev pub are_distinct : List KnownTarget → Bool
are_distinct known = none_clash same_known [] known

-- each job has a list for each of its sources
abbrev pub have_sources : List JobSpec → List (List (List ℕ)) → Bool
have_sources [] [] = true
have_sources [] (sources ∷ listed) = false
have_sources (job ∷ jobs) [] = false
have_sources (job ∷ jobs) (sources ∷ listed) = (length sources == job.sources) && have_sources jobs listed

-- targets of the job, in ascending order
abbrev pub is_list : List KnownTarget → ℕ → List ℕ → Bool
is_list known job numbers = list_all (is_of known job) numbers && rises numbers

-- the lists of the jobs from this one on
abbrev pub are_lists_from : List KnownTarget → ℕ → List (List (List ℕ)) → Bool
are_lists_from known job [] = true
are_lists_from known job (sources ∷ listed) = list_all (is_list known job) sources && are_lists_from known (suc job) listed

-- the lists are those of the jobs, and not too many targets are live
abbrev pub are_lists : FleetState → Bool
are_lists fleet = have_sources fleet.jobs fleet.listed && are_lists_from fleet.known 0 fleet.listed && nat_le (count_below (is_live fleet) (length fleet.known)) MOST_LIVE_TARGETS

-- a collector cannot stand behind the other: it has the other's name, or no later number
abbrev pub clashes : Collector → Collector → Bool
clashes c before = bytes_eq before.name c.name || not (nat_lt before.id c.id)

-- not too many collectors, in order of their numbers, each given and each with a name of its own
abbrev pub are_collectors : FleetState → Bool
are_collectors fleet =
    nat_le (length fleet.collectors) MOST_COLLECTORS && nat_le (length fleet.jobs * length fleet.collectors) MOST_BINS && nat_le fleet.last_collector LAST_COLLECTOR
    && list_all (λ (c : Collector). nat_le c.id fleet.last_collector) fleet.collectors && none_clash clashes [] fleet.collectors

-- the first fault of a fleet's parts
abbrev pub parts_fault : FleetState → Option PartsError
parts_fault fleet =
    if not (are_jobs fleet.jobs) then Some BadJobs
    else (if not (are_targets (length fleet.jobs) fleet.known) then Some BadTargets
    else (if not (are_lists fleet) then Some BadLists
    else (if not (are_collectors fleet) then Some BadCollectors
    else (if not (are_distinct fleet.known) then Some RepeatedTarget else None))))
