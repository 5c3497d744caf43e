-- What every booked report is: one of the target's holder, and the only one of its target and round.
use Rattle.std.specs.Prelude.{◌≡◌, ◌<◌, ◌≤◌, ℕ, Option, None, nat_lt, if◌then◌else◌, List, ◌∷◌, ◌++◌, All, AllPairs, Some, true, length, slice_get}
use Rattle.handover.specs.Handover.{holder_in}
use Rattle.served_lists.specs.Served.{is_free}
use Rattle.scrape_books.specs.Books.{is_booked}
use Rattle.scrape_books.specs.Kept.{BookedOnce}
use Rattle.scrape_books.specs.declared.report.Entry.{Entry}
use Rattle.fleet.specs.Fleet.{is_joined}
use Rattle.allocation_core.specs.State.{State, first_round, first_state}
use Rattle.allocation_core.specs.Steps.{answer_of, number_for, round_refusal}
use Rattle.allocation_core.specs.Runs.{state_of}
use Rattle.allocation_core.specs.Kept.{IsKept}
use Rattle.fleet.specs.declared.job.JobSpec.{JobSpec}
use Rattle.fleet_events.specs.declared.event.Event.{Event}
use Rattle.fleet_events.specs.declared.event.Event.TheVariants.{Report}
use Rattle.fleet_events.specs.declared.answer.Answer.TheVariants.{Booked}
use Rattle.fleet_events.specs.declared.refusal.Refusal.{Refusal}
use Rattle.fleet_events.specs.declared.refusal.Refusal.TheVariants.{RoundClosed, RoundNotOpen, AlreadyBooked}

-- The Report that books an entry of a target.
abbrev pub report_of : ℕ × Entry → Event
report_of b = Report (record { collector = b.1.collector; allocation = b.1.number; target = b.0; round = b.1.round; outcome = b.1.outcome })

-- A Report among the events booked the entry, in this place. Just before that event its collector was live, had last taken the
-- allocation that the report names, or been served the list of the target's job of it, and held the target there; no other collector's
-- list had the target; and the round was one of the last that are open.
pub record WasBooked (first : State) (events : List Event) (place : ℕ) (b : ℕ × Entry) : Type 0 where
  pub earlier : List Event
  pub later : List Event
  pub split : events ≡ earlier ++ report_of b ∷ later
  pub before : length (state_of first earlier).booked ≡ place
  pub answered : answer_of (state_of first earlier) (report_of b) ≡ Booked
  pub joined : is_joined (state_of first earlier).fleet b.1.collector ≡ true
  pub taken : number_for (state_of first earlier) b.1.collector b.0 ≡ b.1.number
  pub held : holder_in (state_of first earlier).published b.1.number b.0 ≡ Some b.1.collector
  pub free : is_free (state_of first earlier).served.slots b.1.collector b.0 ≡ true
  pub opened : first_round (state_of first earlier) ≤ b.1.round
  pub reached : b.1.round ≤ (state_of first earlier).round

-- Each booked report was booked by these events as it should be, its collector holds the target in the allocation that it names,
-- and the rounds of a target differ: no target and round is booked twice.
pub record AllBooked (first : State) (events : List Event) (m : State) : Type 0 where
  pub each : (place : ℕ) (b : ℕ × Entry) → slice_get m.booked place ≡ Some b → WasBooked first events place b
  pub held : All (λ (b : ℕ × Entry). holder_in m.published b.1.number b.0 ≡ Some b.1.collector) m.booked
  pub once : BookedOnce m.booked

-- over every list of jobs and of events, of however many of the last rounds a report is booked
abbrev pub AlwaysBooked : Type 0
AlwaysBooked = (jobs : List JobSpec) (report_rounds : ℕ) (events : List Event) → AllBooked (first_state jobs report_rounds) events (state_of (first_state jobs report_rounds) events)

-- the round is not the open one, or the target's report of it is booked
abbrev pub one_round_refusal : State → ℕ → ℕ → Option Refusal
one_round_refusal m target round =
    if nat_lt round m.round then Some (RoundClosed m.round) else if nat_lt m.round round then Some (RoundNotOpen m.round) else if is_booked m.booked target round then Some AlreadyBooked else None

-- of two entries of one target the later one is of a later round
abbrev pub RoundsRise : List (ℕ × Entry) → Type 0
RoundsRise booked = AllPairs (λ (a b : ℕ × Entry). a.0 ≡ b.0 → a.1.round < b.1.round) booked

-- Reports are booked of the open round alone: the first round of which one is booked is the open one, a report is refused for its round
-- as where there is no other, and the rounds of a target rise.
pub record IsOfOpenRound (m : State) : Type 0 where
  pub first : first_round m ≡ m.round
  pub refusal : (target round : ℕ) → round_refusal m target round ≡ one_round_refusal m target round
  pub rise : RoundsRise m.booked

-- where a report is booked of one round, that is the open one, over every list of jobs and of events
abbrev pub WithOneAllIsAsBefore : Type 0
WithOneAllIsAsBefore = (jobs : List JobSpec) (events : List Event) → IsOfOpenRound (state_of (first_state jobs 1) events)

-- the same over every list of events from a state of which it holds, as from one in which nothing is booked
abbrev pub WithOneItStays : Type 0
WithOneItStays = (start : State) (events : List Event) → IsKept start → start.report_rounds ≡ 1 → RoundsRise start.booked → IsOfOpenRound (state_of start events)
