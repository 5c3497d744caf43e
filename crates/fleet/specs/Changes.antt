-- How a fleet changes: by a source that lists targets, by a collector that joins, drains, gets other limits or leaves. The first
-- refusal is told, and then the fleet stays.
use Rattle.std.specs.Prelude.{ℕ, ◌+◌, ◌*◌, ◌==◌, ◌&&◌, ◌||◌, not, Bool, false, if◌then◌else◌, nat_lt, List, [], ◌∷◌, ◌++◌, length, filter, map, Option, Some, None, is_some, Result, Ok, Err, ◌≡◌}
use Rattle.std.specs.Option.{option_map_or}
use Rattle.label_sets.specs.Target.{FinalTarget}
use Rattle.reach_rules.specs.OwnLimits.{LimitList}
use Rattle.reach_rules.specs.declared.rule.ReachRule.{ReachRule}
use Rattle.fleet.specs.Fleet.{FleetState, id_named, is_draining, is_joined}
use Rattle.fleet.specs.Live.{chosen_below, count_below, is_in, is_listed, listed_only, with_list}
use Rattle.fleet.specs.KnownTarget.{known_with, numbers_of}
use Rattle.fleet.specs.Jobs.{are_for_jobs, job_named, sources_at}
use Rattle.fleet.specs.declared.collector.Collector.{Collector}
use Rattle.fleet.specs.declared.limits.TheConstants.{LAST_COLLECTOR, MOST_BINS, MOST_COLLECTORS, MOST_KNOWN_TARGETS, MOST_LIVE_TARGETS}
use Rattle.fleet.specs.declared.outcome.Listing.{Listing}
use Rattle.fleet.specs.declared.outcome.Listing.TheVariants.{Changed, Refused}
use Rattle.fleet.specs.declared.outcome.ListRefusal.{ListRefusal}
use Rattle.fleet.specs.declared.outcome.ListRefusal.TheVariants.{UnknownJob, UnknownSource, TooManyLive, TooManyKnown}
use Rattle.fleet.specs.declared.outcome.Joining.{Joining}
use Rattle.fleet.specs.declared.outcome.Joining.TheVariants.{Joined, Refused as Turned}
use Rattle.fleet.specs.declared.outcome.JoinRefusal.{JoinRefusal}
use Rattle.fleet.specs.declared.outcome.JoinRefusal.TheVariants.{UnknownJob as JoinForNoJob, AlreadyJoined, TooManyCollectors, IdsSpent}
use Rattle.fleet.specs.declared.outcome.Draining.{Draining}
use Rattle.fleet.specs.declared.outcome.Draining.TheVariants.{Drains, Refused as NotDrained}
use Rattle.fleet.specs.declared.outcome.DrainRefusal.{DrainRefusal}
use Rattle.fleet.specs.declared.outcome.DrainRefusal.TheVariants.{UnknownCollector, AlreadyDraining}
use Rattle.fleet.specs.declared.outcome.Limiting.{Limiting}
use Rattle.fleet.specs.declared.outcome.Limiting.TheVariants.{LimitsSet, Refused as NotSet}
use Rattle.fleet.specs.declared.outcome.LimitsRefusal.{LimitsRefusal}
use Rattle.fleet.specs.declared.outcome.LimitsRefusal.TheVariants.{UnknownCollector as LimitsOfNobody, UnknownJob as LimitsForNoJob}

-- the fleet where a source of a job lists these targets, in place of those that it listed before
abbrev pub relisted : FleetState → ℕ → ℕ → List FinalTarget → FleetState
relisted fleet job source targets =
    record fleet {
      known = known_with fleet.known job targets;
      listed = with_list fleet.listed job source (chosen_below (is_in (numbers_of fleet.known job targets)) (length (known_with fleet.known job targets)));
    }

-- too many targets are live or known
abbrev pub crowd_in : List (List (List ℕ)) → ℕ → Option ListRefusal
crowd_in listed known = if nat_lt MOST_LIVE_TARGETS (count_below (is_listed listed) known) then Some TooManyLive else if nat_lt MOST_KNOWN_TARGETS known then Some TooManyKnown else None

abbrev pub source_refusal : FleetState → ℕ → ℕ → List FinalTarget → Option ListRefusal
source_refusal fleet job source targets =
    if nat_lt source (sources_at fleet.jobs job) then crowd_in (relisted fleet job source targets).listed (length (relisted fleet job source targets).known) else Some UnknownSource

-- the first reason against a list
abbrev pub list_refusal : FleetState → List ℕ → ℕ → List FinalTarget → Option ListRefusal
list_refusal fleet name source targets = option_map_or (λ (job : ℕ). source_refusal fleet job source targets) (job_named fleet.jobs name) (Some UnknownJob)

-- the fleet after a list that nothing is against
abbrev pub with_listing : FleetState → List ℕ → ℕ → List FinalTarget → FleetState
with_listing fleet name source targets = option_map_or (λ (job : ℕ). relisted fleet job source targets) (job_named fleet.jobs name) fleet

-- the targets that became live, and those that are live no longer
abbrev pub difference : FleetState → FleetState → Listing
difference old new = Changed (listed_only new.listed old.listed (length new.known)) (listed_only old.listed new.listed (length new.known))

abbrev pub listing_by : Option ListRefusal → Listing → Listing
listing_by None listing = listing
listing_by (Some refusal) listing = Refused refusal

-- what becomes of a list
unfoldable pub listing_of : FleetState → List ℕ → ℕ → List FinalTarget → Listing
listing_of fleet name source targets = listing_by (list_refusal fleet name source targets) (difference fleet (with_listing fleet name source targets))

unfoldable pub fleet_after_list : FleetState → List ℕ → ℕ → List FinalTarget → FleetState
fleet_after_list fleet name source targets = if is_some (list_refusal fleet name source targets) then fleet else with_listing fleet name source targets

-- one collector more is too many, or has no number
abbrev pub room_refusal : FleetState → Option JoinRefusal
room_refusal fleet =
    if nat_lt MOST_COLLECTORS (length fleet.collectors + 1) || nat_lt MOST_BINS (length fleet.jobs * (length fleet.collectors + 1)) then Some TooManyCollectors else if nat_lt fleet.last_collector LAST_COLLECTOR then None else Some IdsSpent

abbrev pub name_refusal : FleetState → Option ℕ → Option JoinRefusal
name_refusal fleet (Some id) = Some (AlreadyJoined id)
name_refusal fleet None = room_refusal fleet

-- the first reason against a collector of this name with these limits
abbrev pub join_refusal : FleetState → List ℕ → LimitList → Option JoinRefusal
join_refusal fleet name limits = if are_for_jobs fleet.jobs limits then name_refusal fleet (id_named fleet.collectors name) else Some JoinForNoJob

-- the fleet after a collector joined
abbrev pub with_collector : FleetState → List ℕ → List ReachRule → LimitList → FleetState
with_collector fleet name reach limits = record fleet { collectors = fleet.collectors ++ record { id = fleet.last_collector + 1; name = name; reach = reach; draining = false; limits = limits } ∷ []; last_collector = fleet.last_collector + 1 }

abbrev pub joining_by : Option JoinRefusal → ℕ → Joining
joining_by None id = Joined id
joining_by (Some refusal) id = Turned refusal

-- what becomes of a collector that wants to join
unfoldable pub joining_of : FleetState → List ℕ → LimitList → Joining
joining_of fleet name limits = joining_by (join_refusal fleet name limits) (fleet.last_collector + 1)

unfoldable pub fleet_after_join : FleetState → List ℕ → List ReachRule → LimitList → FleetState
fleet_after_join fleet name reach limits = if is_some (join_refusal fleet name limits) then fleet else with_collector fleet name reach limits

-- the fleet after a collector left
abbrev pub without_collector : FleetState → ℕ → FleetState
without_collector fleet id = record fleet { collectors = filter (λ (c : Collector). not (c.id == id)) fleet.collectors }

unfoldable pub fleet_after_leave : FleetState → ℕ → FleetState
fleet_after_leave fleet id = if is_joined fleet id then without_collector fleet id else fleet

-- the first reason against draining a collector
abbrev pub drain_refusal : FleetState → ℕ → Option DrainRefusal
drain_refusal fleet id = if is_joined fleet id then (if is_draining fleet id then Some AlreadyDraining else None) else Some UnknownCollector

-- the collector, draining from now on if it has the number
abbrev pub with_draining_at : ℕ → Collector → Collector
with_draining_at id c = record c { draining = c.draining || (c.id == id) }

-- the fleet after a collector began to drain
abbrev pub with_draining : FleetState → ℕ → FleetState
with_draining fleet id = record fleet { collectors = map (with_draining_at id) fleet.collectors }

abbrev pub draining_by : Option DrainRefusal → Draining
draining_by None = Drains
draining_by (Some refusal) = NotDrained refusal

-- what becomes of a collector that is to drain
unfoldable pub draining_of : FleetState → ℕ → Draining
draining_of fleet id = draining_by (drain_refusal fleet id)

unfoldable pub fleet_after_drain : FleetState → ℕ → FleetState
fleet_after_drain fleet id = if is_some (drain_refusal fleet id) then fleet else with_draining fleet id

-- the first reason against other limits of a collector
abbrev pub limits_refusal : FleetState → ℕ → LimitList → Option LimitsRefusal
limits_refusal fleet id limits = if is_joined fleet id then (if are_for_jobs fleet.jobs limits then None else Some LimitsForNoJob) else Some LimitsOfNobody

-- the collector, with these limits in place of its own if it has the number
abbrev pub with_limits_at : ℕ → LimitList → Collector → Collector
with_limits_at id limits c = record c { limits = if c.id == id then limits else c.limits }

-- the fleet after a collector got other limits
abbrev pub with_limits : FleetState → ℕ → LimitList → FleetState
with_limits fleet id limits = record fleet { collectors = map (with_limits_at id limits) fleet.collectors }

abbrev pub limiting_by : Option LimitsRefusal → Limiting
limiting_by None = LimitsSet
limiting_by (Some refusal) = NotSet refusal

-- what becomes of a collector that gets other limits
unfoldable pub limiting_of : FleetState → ℕ → LimitList → Limiting
limiting_of fleet id limits = limiting_by (limits_refusal fleet id limits)

unfoldable pub fleet_after_limits : FleetState → ℕ → LimitList → FleetState
fleet_after_limits fleet id limits = if is_some (limits_refusal fleet id limits) then fleet else with_limits fleet id limits

-- what a change of the lists comes to: how many targets of so many known ones became live and are live no longer, or what is against it
abbrev pub IsChange : List (List (List ℕ)) → List (List (List ℕ)) → ℕ → Result (ℕ × ℕ) ListRefusal → Type 0
IsChange old new known (Ok d) = (crowd_in new known ≡ None) × (d.0 ≡ listed_only new old known) × (d.1 ≡ listed_only old new known)
IsChange old new known (Err refusal) = crowd_in new known ≡ Some refusal

-- what is there where the change is made, and where it is refused
abbrev pub kept_unless : {X : Type 0} → Result (ℕ × ℕ) ListRefusal → X → X → X
kept_unless (Ok d) old new = new
kept_unless (Err refusal) old new = old

-- the same, where a test says what was live before
abbrev pub IsChangeFrom : (ℕ → Bool) → List (List (List ℕ)) → ℕ → Result (ℕ × ℕ) ListRefusal → Type 0
IsChangeFrom before new known (Ok d) =
    (crowd_in new known ≡ None) × (d.0 ≡ count_below (λ target. is_listed new target && not (before target)) known) × (d.1 ≡ count_below (λ target. before target && not (is_listed new target)) known)
IsChangeFrom before new known (Err refusal) = crowd_in new known ≡ Some refusal
