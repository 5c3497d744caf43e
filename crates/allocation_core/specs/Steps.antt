-- One step of the machine: the first refusal is the answer, and the state stays; else the answer and the new state.
use Rattle.std.specs.Prelude.{ℕ, ◌+◌, ◌==◌, ◌&&◌, Bool, false, if◌then◌else◌, nat_lt, List, [], ◌∷◌, ◌++◌, length, slice_get, option_and_then, Option, Some, None, is_some, Result, Ok, Err}
use Rattle.std.specs.Option.{option_map, option_map_or}
use Rattle.std.specs.Cmp.Lexicographic.{pointwise}
use Rattle.price_certificate.specs.Derived.{capped}
use Rattle.price_certificate.specs.Faults.{fault_of}
use Rattle.price_certificate.specs.Problem.{Problem}
use Rattle.price_certificate.specs.declared.plan.Plan.{Plan}
use Rattle.price_certificate.specs.declared.verdict.Fault.{Fault}
use Rattle.spread_certificate.specs.Judged.{spread_fault}
use Rattle.spread_certificate.specs.declared.spread.Spread.{Spread as SpreadPlan}
use Rattle.spread_certificate.specs.declared.verdict.SpreadFault.{SpreadFault}
use Rattle.handover.specs.Handover.{holder_in, taken_by, with_taken}
use Rattle.served_lists.specs.Served.{count_had, is_free, number_of, slot_of, without_list}
use Rattle.scrape_books.specs.Books.{is_booked, samples_of}
use Rattle.scrape_books.specs.declared.report.Entry.{Entry}
use Rattle.scrape_books.specs.declared.report.Outcome.{Outcome}
use Rattle.fleet.specs.Fleet.{is_joined}
use Rattle.fleet.specs.Jobs.{job_named}
use Rattle.fleet.specs.declared.known_target.KnownTarget.{KnownTarget}
use Rattle.fleet.specs.Changes.{difference, drain_refusal, join_refusal, limits_refusal, list_refusal, with_collector, with_draining, with_limits, with_listing, without_collector}
use Rattle.fleet.specs.declared.outcome.Listing.{Listing}
use Rattle.fleet.specs.declared.outcome.Listing.TheVariants.{Changed, Refused as NotListed}
use Rattle.fleet.specs.declared.outcome.ListRefusal.{ListRefusal}
use Rattle.fleet.specs.declared.outcome.ListRefusal.TheVariants.{UnknownJob as NoJob, UnknownSource as NoSource, TooManyLive as CrowdLive, TooManyKnown as CrowdKnown}
use Rattle.fleet.specs.declared.outcome.Joining.{Joining}
use Rattle.fleet.specs.declared.outcome.Joining.TheVariants.{Joined as HasJoined, Refused as HasNot}
use Rattle.fleet.specs.declared.outcome.JoinRefusal.{JoinRefusal}
use Rattle.fleet.specs.declared.outcome.JoinRefusal.TheVariants.{UnknownJob as NoJobOfName, AlreadyJoined as NameTaken, TooManyCollectors as NoRoom, IdsSpent as NoId}
use Rattle.fleet.specs.declared.outcome.Draining.{Draining as Drained}
use Rattle.fleet.specs.declared.outcome.Draining.TheVariants.{Drains, Refused as NotDrained}
use Rattle.fleet.specs.declared.outcome.DrainRefusal.{DrainRefusal}
use Rattle.fleet.specs.declared.outcome.DrainRefusal.TheVariants.{UnknownCollector as NobodyDrains, AlreadyDraining as DrainsAlready}
use Rattle.fleet.specs.declared.outcome.Limiting.{Limiting}
use Rattle.fleet.specs.declared.outcome.Limiting.TheVariants.{LimitsSet as IsLimited, Refused as NotLimited}
use Rattle.fleet.specs.declared.outcome.LimitsRefusal.{LimitsRefusal}
use Rattle.fleet.specs.declared.outcome.LimitsRefusal.TheVariants.{UnknownCollector as NobodyLimited, UnknownJob as NoJobLimited}
use Rattle.handover.specs.declared.holders.TheConstants.{LAST_NUMBER}
use Rattle.allocation_core.specs.declared.limits.TheConstants.{LAST_ROUND}
use Rattle.allocation_core.specs.State.{State, allocation_at, current_of, current_pairs, first_round, held_by, instance_at, left_out_at, list_at, served_at, was_given}
use Rattle.fleet_events.specs.declared.event.Event.{Event}
use Rattle.fleet_events.specs.declared.event.Event.TheVariants.{Discover, Join, Leave, Drain, SetLimits, Install, Spread, NextRound, Take, Serve, Release, Report}
use Rattle.fleet_events.specs.declared.answer.Answer.{Answer}
use Rattle.fleet_events.specs.declared.answer.Answer.TheVariants.{Discovered, Joined, Left, Draining, LimitsSet, Published, RoundOpen, Taken, Served, Released, Booked, Not}
use Rattle.fleet_events.specs.declared.refusal.Refusal.{Refusal}
use Rattle.fleet_events.specs.declared.refusal.Refusal.TheVariants.{UnknownJob, UnknownSource, TooManyLive, TooManyKnown, AlreadyJoined, TooManyCollectors, IdsSpent, UnknownCollector, AlreadyDraining, Refused, RefusedSpread, Unchanged, NumbersSpent, RoundsSpent, NotTaken, UnknownTarget, NotHolder, StillServed, RoundClosed, RoundNotOpen, AlreadyBooked}

-- why a source does not list targets, as a refusal
abbrev pub unlisted : ListRefusal → Refusal
unlisted NoJob = UnknownJob
unlisted NoSource = UnknownSource
unlisted CrowdLive = TooManyLive
unlisted CrowdKnown = TooManyKnown

-- what becomes of a list, as an answer
abbrev pub listing_answer : Listing → Answer
listing_answer (Changed added removed) = Discovered added removed
listing_answer (NotListed refusal) = Not (unlisted refusal)

-- why a collector does not join, as a refusal
abbrev pub unjoined : JoinRefusal → Refusal
unjoined NoJobOfName = UnknownJob
unjoined (NameTaken id) = AlreadyJoined id
unjoined NoRoom = TooManyCollectors
unjoined NoId = IdsSpent

-- what becomes of a collector that wants to join, as an answer
abbrev pub joining_answer : Joining → Answer
joining_answer (HasJoined id) = Joined id
joining_answer (HasNot refusal) = Not (unjoined refusal)

-- why a collector does not begin to drain, as a refusal
abbrev pub undrained : DrainRefusal → Refusal
undrained NobodyDrains = UnknownCollector
undrained DrainsAlready = AlreadyDraining

-- what becomes of a collector that is to drain, as an answer
abbrev pub draining_answer : Drained → Answer
draining_answer Drains = Draining
draining_answer (NotDrained refusal) = Not (undrained refusal)

-- why a collector does not get other limits, as a refusal
abbrev pub unlimited : LimitsRefusal → Refusal
unlimited NobodyLimited = UnknownCollector
unlimited NoJobLimited = UnknownJob

-- what becomes of a collector that gets other limits, as an answer
abbrev pub limiting_answer : Limiting → Answer
limiting_answer IsLimited = LimitsSet
limiting_answer (NotLimited refusal) = Not (unlimited refusal)

-- two lists of pairs are equal
abbrev pub same_pairs : List (ℕ × ℕ) → List (ℕ × ℕ) → Bool
same_pairs = pointwise (λ (x y : ℕ × ℕ). (x.0 == y.0) && (x.1 == y.1))

-- an allocation is the current one, or has no number
abbrev pub number_refusal : State → List (ℕ × ℕ) → Option Refusal
number_refusal m pairs =
    if same_pairs pairs (current_pairs m) then Some (Unchanged (current_of m)) else if nat_lt (current_of m) LAST_NUMBER then None else Some NumbersSpent

abbrev pub plan_refusal : State → Plan → Option Fault → Option Refusal
plan_refusal m plan (Some fault) = Some (Refused fault)
plan_refusal m plan None = number_refusal m (allocation_at m plan.pairs)

abbrev pub spread_refusal : State → SpreadPlan → Option SpreadFault → Option Refusal
spread_refusal m spread (Some fault) = Some (RefusedSpread fault)
spread_refusal m spread None = number_refusal m (allocation_at m spread.plan.pairs)

-- no live collector has the number, or else what stands behind
abbrev pub unless_unknown : State → ℕ → Option Refusal → Option Refusal
unless_unknown m id others = if is_joined m.fleet id then others else Some UnknownCollector

-- the place of the job of a name
abbrev pub place_of : State → List ℕ → Option ℕ
place_of m name = job_named m.fleet.jobs name

-- the same where a job is named
abbrev pub place_named : State → Option (List ℕ) → Option ℕ
place_named m name = option_and_then (place_of m) name

-- no collector ever had the number
abbrev pub unless_given : State → ℕ → Option Refusal
unless_given m id = if was_given m id then None else Some UnknownCollector

-- there is no such job, or no collector ever had the number
abbrev pub unless_served : State → ℕ → Option ℕ → Option Refusal
unless_served m id None = Some UnknownJob
unless_served m id (Some job) = unless_given m id

-- the place of a job that is named, if one is, or why there is none
abbrev pub job_meant : State → Option (List ℕ) → Result (Option ℕ) Refusal
job_meant m None = Ok None
job_meant m (Some name) = option_map_or (λ (job : ℕ). Ok (Some job)) (place_of m name) (Err UnknownJob)

-- the same where a job is named
abbrev pub unless_released : State → ℕ → Option (List ℕ) → Option Refusal
unless_released m id None = unless_given m id
unless_released m id (Some name) = unless_served m id (place_of m name)

-- the target's holder is this collector
abbrev pub is_holder : Option ℕ → ℕ → Bool
is_holder None collector = false
is_holder (Some holder) collector = holder == collector

-- the round is before the first one of which a report is booked, or behind the open one, or the target's report of it is booked
abbrev pub round_refusal : State → ℕ → ℕ → Option Refusal
round_refusal m target round =
    if nat_lt round (first_round m) then Some (RoundClosed (first_round m)) else if nat_lt m.round round then Some (RoundNotOpen m.round) else if is_booked m.booked target round then Some AlreadyBooked else None

-- the list of another collector has the target
abbrev pub slot_refusal : State → ℕ → ℕ → ℕ → Option Refusal
slot_refusal m collector target round = if is_free m.served.slots collector target then round_refusal m target round else Some (StillServed (slot_of m.served.slots target))

abbrev pub holder_refusal : State → Option ℕ → ℕ → ℕ → ℕ → Option Refusal
holder_refusal m holder collector target round = if is_holder holder collector then slot_refusal m collector target round else Some (NotHolder holder)

-- a number, or another where there is none
abbrev pub number_or : ℕ → Option ℕ → ℕ
number_or other None = other
number_or other (Some number) = number

abbrev pub number_at : State → ℕ → Option KnownTarget → ℕ
number_at m collector None = taken_by m.taken collector
number_at m collector (Some known) = number_or (taken_by m.taken collector) (number_of m.served.numbers collector known.job)

-- the number that a collector's report of a target names: that of the allocation of which the list of the target's job was served to it
-- last, or that it took last where no such list was served
abbrev pub number_for : State → ℕ → ℕ → ℕ
number_for m collector target = number_at m collector (slice_get m.fleet.known target)

-- the first reason against a report of a live collector
abbrev pub report_refusal : State → ℕ → ℕ → ℕ → ℕ → Option Refusal
report_refusal m collector number target round =
    if number_for m collector target == number then (if nat_lt target (length m.fleet.known) then holder_refusal m (holder_in m.published number target) collector target round else Some UnknownTarget) else Some (NotTaken (number_for m collector target))

-- the first reason against an event
abbrev pub refusal_of : State → Event → Option Refusal
refusal_of m (Discover name source targets) = option_map unlisted (list_refusal m.fleet name source targets)
refusal_of m (Join name reach limits) = option_map unjoined (join_refusal m.fleet name limits)
refusal_of m (Leave id) = unless_unknown m id None
refusal_of m (Drain id) = option_map undrained (drain_refusal m.fleet id)
refusal_of m (SetLimits id limits) = option_map unlimited (limits_refusal m.fleet id limits)
refusal_of m (Install plan) = plan_refusal m plan (fault_of (instance_at m) plan.pairs plan.item_prices plan.bin_prices)
refusal_of m (Spread spread) = spread_refusal m spread (spread_fault (instance_at m) spread)
refusal_of m NextRound = if nat_lt m.round LAST_ROUND then None else Some RoundsSpent
refusal_of m (Take id) = unless_unknown m id None
refusal_of m (Serve id name) = unless_served m id (place_of m name)
refusal_of m (Release id name) = unless_released m id name
refusal_of m (Report report) = unless_unknown m report.collector (report_refusal m report.collector report.allocation report.target report.round)

-- a report as it is booked
abbrev pub entry_of : ℕ → ℕ → ℕ → Outcome → Entry
entry_of collector number round outcome = record { round = round; number = number; collector = collector; outcome = outcome }

-- the state where the allocation of a plan is published, with the instance that its prices certify it for
abbrev pub with_plan : State → Problem → Plan → State
with_plan m problem plan = record m { published = m.published ++ allocation_at m plan.pairs ∷ []; problem = problem; plan = plan }

-- the state after an event that nothing is against
abbrev pub changed : State → Event → State
changed m (Discover name source targets) = record m { fleet = with_listing m.fleet name source targets }
changed m (Join name reach limits) = record m { fleet = with_collector m.fleet name reach limits }
changed m (Leave id) = record m { fleet = without_collector m.fleet id }
changed m (Drain id) = record m { fleet = with_draining m.fleet id }
changed m (SetLimits id limits) = record m { fleet = with_limits m.fleet id limits }
changed m (Install plan) = with_plan m (instance_at m) plan
changed m (Spread spread) = with_plan m (capped spread.caps (instance_at m)) spread.plan
changed m NextRound = record m { round = m.round + 1 }
changed m (Take id) = record m { taken = with_taken m.taken id (current_of m) }
changed m (Serve id name) = record m { served = served_at m id (place_of m name) }
changed m (Release id name) = record m { served = without_list m.fleet.known m.served id (place_named m name) }
changed m (Report report) = record m { booked = m.booked ++ (report.target, entry_of report.collector report.allocation report.round report.outcome) ∷ [] }

-- the answer to it
abbrev pub granted : State → Event → Answer
granted m (Discover name source targets) = listing_answer (difference m.fleet (with_listing m.fleet name source targets))
granted m (Join name reach limits) = Joined (m.fleet.last_collector + 1)
granted m (Leave id) = Left
granted m (Drain id) = Draining
granted m (SetLimits id limits) = LimitsSet
granted m (Install plan) = Published (current_of m + 1)
granted m (Spread spread) = Published (current_of m + 1)
granted m NextRound = RoundOpen (m.round + 1)
granted m (Take id) = Taken (current_of m) m.round (held_by m id)
granted m (Serve id name) = Served (current_of m) m.round (list_at m id (place_of m name)) (left_out_at m id (place_of m name))
granted m (Release id name) = Released (count_had m.fleet.known m.served id (place_named m name))
granted m (Report report) = Booked

abbrev pub answer_by : Option Refusal → Answer → Answer
answer_by None granted = granted
answer_by (Some refusal) granted = Not refusal

unfoldable pub answer_of : State → Event → Answer
answer_of m event = answer_by (refusal_of m event) (granted m event)

unfoldable pub state_after : State → Event → State
state_after m event = if is_some (refusal_of m event) then m else changed m event

-- the samples that an event booked, by its answer
abbrev pub gained : Event → Answer → ℕ
gained (Report report) Booked = samples_of report.outcome
gained event answer = 0
