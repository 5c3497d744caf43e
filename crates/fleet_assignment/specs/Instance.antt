-- The assignment problem of a fleet and a preceding allocation: its items are the live targets in order of number, its bins for
-- each collector in order the jobs, so that the bin of a collector's place and a job's place is place * jobs + job. The bins of a
-- draining collector drain.
use Rattle.std.specs.Prelude.{ℕ, ◌+◌, ◌*◌, ◌==◌, Bool, List, [], ◌∷◌, ◌++◌, Option, if◌then◌else◌, length, map, replicate, option_and_then, slice_get}
use Rattle.std.specs.List.{position_from}
use Rattle.std.specs.Option.{option_map, option_map_or}
use Rattle.price_certificate.specs.Problem.{Problem}
use Rattle.price_certificate.specs.declared.version.Version.TheVariants.{Two}
use Rattle.reach_rules.specs.Rules.{reaches}
use Rattle.fleet.specs.declared.job.JobSpec.{JobSpec}
use Rattle.fleet.specs.declared.known_target.KnownTarget.{KnownTarget}
use Rattle.fleet.specs.declared.collector.Collector.{Collector}
use Rattle.fleet.specs.Fleet.{FleetState, live_of}
use Rattle.fleet.specs.ShareLimit.{share_limit}
use Rattle.fleet_assignment.specs.Beside.{beside}

-- the limits of the bins: for each collector those of its shares of the jobs
abbrev pub limits_for : List JobSpec → List Collector → List ℕ
limits_for jobs [] = []
limits_for jobs (c ∷ collectors) = map (λ (job : JobSpec). share_limit job c) jobs ++ limits_for jobs collectors

-- which bins drain: for each collector, as often as there are jobs, whether it does
abbrev pub draining_for : ℕ → List Collector → List Bool
draining_for jobs [] = []
draining_for jobs (c ∷ collectors) = replicate jobs c.draining ++ draining_for jobs collectors

-- the bins that a target may use: those of its job at the collectors that reach it, from a place on
abbrev pub row_from : ℕ → ℕ → List Collector → KnownTarget → List ℕ
row_from jobs place [] known = []
row_from jobs place (c ∷ collectors) known =
    if reaches c.reach known.target then (place * jobs + known.job) ∷ row_from jobs (place + 1) collectors known else row_from jobs (place + 1) collectors known

abbrev pub row_in : ℕ → List Collector → List KnownTarget → ℕ → List ℕ
row_in jobs collectors known target = option_map_or (λ (k : KnownTarget). row_from jobs 0 collectors k) (slice_get known target) []

abbrev pub row_for : FleetState → ℕ → List ℕ
row_for fleet target = row_in (length fleet.jobs) fleet.collectors fleet.known target

-- the place of a live collector
abbrev pub place_of : List Collector → ℕ → Option ℕ
place_of collectors id = position_from (λ (c : Collector). c.id == id) 0 collectors

-- the bin of a target at a collector, where that is live
abbrev pub bin_in : ℕ → List Collector → List KnownTarget → ℕ → ℕ → Option ℕ
bin_in jobs collectors known target collector = option_and_then (λ (k : KnownTarget). option_map (λ (place : ℕ). place * jobs + k.job) (place_of collectors collector)) (slice_get known target)

-- the bin where a target is in an allocation
abbrev pub bin_before_in : ℕ → List Collector → List KnownTarget → List (ℕ × ℕ) → ℕ → Option ℕ
bin_before_in jobs collectors known pairs target = option_and_then (bin_in jobs collectors known target) (beside pairs target)

abbrev pub bin_before : FleetState → List (ℕ × ℕ) → ℕ → Option ℕ
bin_before fleet before target = bin_before_in (length fleet.jobs) fleet.collectors fleet.known before target

-- the instance of these targets, jobs and collectors, with the pairs of an allocation before
abbrev pub problem_of : List JobSpec → List Collector → List KnownTarget → List ℕ → List (ℕ × ℕ) → Problem
problem_of jobs collectors known live pairs =
    record {
      version = Two;
      limits = limits_for jobs collectors;
      draining = draining_for (length jobs) collectors;
      rows = map (row_in (length jobs) collectors known) live;
      before = map (bin_before_in (length jobs) collectors known pairs) live;
    }

-- the assignment problem of a fleet and a preceding allocation
unfoldable pub instance_of : FleetState → List (ℕ × ℕ) → Problem
instance_of fleet before = problem_of fleet.jobs fleet.collectors fleet.known (live_of fleet) before
