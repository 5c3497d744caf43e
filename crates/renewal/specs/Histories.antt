-- Histories: stretches of events, the first from the first state, each further one from a renewal of the state before it.
use Rattle.std.specs.Prelude.{◌≡◌, ◌≢◌, ◌<◌, ◌≤◌, ℕ, List, [], ◌∷◌, All, AllPairs, Some, None, true, length, slice_get, slice_index_or}
use Rattle.handover.specs.Handover.{holder_in}
use Rattle.scrape_books.specs.declared.report.Entry.{Entry}
use Rattle.fleet.specs.Jobs.{are_jobs}
use Rattle.fleet.specs.declared.job.JobSpec.{JobSpec}
use Rattle.fleet_assignment.specs.Best.{IsOnce}
use Rattle.fleet_events.specs.declared.event.Event.{Event}
use Rattle.allocation_core.specs.Best.{WasPublished}
use Rattle.allocation_core.specs.Booked.{WasBooked}
use Rattle.allocation_core.specs.Kept.{IsKept}
use Rattle.allocation_core.specs.Renewed.{renewal_refusal, renewed}
use Rattle.allocation_core.specs.Runs.{state_of}
use Rattle.allocation_core.specs.State.{State, current_pairs, first_state}
use Rattle.renewal.specs.Continuity.{job_name, text_of}

-- a renewal under a list of jobs, of how many of the last rounds a report is booked from then on, and the events behind it
pub record Stretch : Type 0 where
  pub jobs : List JobSpec
  pub report_rounds : ℕ
  pub events : List Event

-- the state at the end of a stretch that follows a state
abbrev pub stretch_end : State → Stretch → State
stretch_end m stretch = state_of (renewed m stretch.jobs stretch.report_rounds) stretch.events

-- no renewal is refused
abbrev pub AreGranted : State → List Stretch → Type 0
AreGranted m [] = Unit {0}
AreGranted m (stretch ∷ stretches) = (renewal_refusal m stretch.jobs ≡ None) × AreGranted (stretch_end m stretch) stretches

-- A target's reports, by the name of its job and its text, are booked in rounds that differ: no target and round is booked twice.
abbrev pub IsOnceByText : State → Type 0
IsOnceByText m =
    (i j : ℕ) (a b : ℕ × Entry) → i < j → slice_get m.booked i ≡ Some a → slice_get m.booked j ≡ Some b → job_name m.fleet a.0 ≡ job_name m.fleet b.0 → text_of m.fleet a.0 ≡ text_of m.fleet b.0 → a.1.round ≢ b.1.round

-- A stretch from a state: each allocation that it published was the best of its moment, or the best within caps that cost nothing, and
-- each report that it booked was booked as it should be, in another round than the target's others. Allocations that were there before
-- are not of it.
pub record IsGood (start : State) (events : List Event) : Type 0 where
  pub kept : IsKept (state_of start events)
  pub best : (place : ℕ) → length start.published ≤ place → place < length (state_of start events).published → WasPublished start events place (slice_index_or (state_of start events).published place [])
  pub booked : (place : ℕ) (b : ℕ × Entry) → slice_get (state_of start events).booked place ≡ Some b → WasBooked start events place b
  pub held : All (λ (b : ℕ × Entry). holder_in (state_of start events).published b.1.number b.0 ≡ Some b.1.collector) (state_of start events).booked
  pub once : IsOnceByText (state_of start events)
  -- what is needed of the current allocation to go on
  pub current : IsOnce (current_pairs (state_of start events))

-- each stretch is good
abbrev pub AreGood : State → List Stretch → Type 0
AreGood m [] = Unit {0}
AreGood m (stretch ∷ stretches) = IsGood (renewed m stretch.jobs stretch.report_rounds) stretch.events × AreGood (stretch_end m stretch) stretches

-- what is booked at the end of each stretch, beginning with the state before the first of these
abbrev pub books_of : State → List Stretch → List (List (ℕ × Entry))
books_of m [] = m.booked ∷ []
books_of m (stretch ∷ stretches) = m.booked ∷ books_of (stretch_end m stretch) stretches

-- each round that is booked in the one is before each that is booked in the other
abbrev pub IsBefore : List (ℕ × Entry) → List (ℕ × Entry) → Type 0
IsBefore earlier later = (i j : ℕ) (a b : ℕ × Entry) → slice_get earlier i ≡ Some a → slice_get later j ≡ Some b → a.1.round < b.1.round

-- a history: the jobs of the first state, the events behind it, and the stretches that follow
abbrev pub HistoriesAreGood : Type 0
HistoriesAreGood =
    (jobs : List JobSpec) (report_rounds : ℕ) (events : List Event) (stretches : List Stretch) → are_jobs jobs ≡ true → AreGranted (state_of (first_state jobs report_rounds) events) stretches
    → IsGood (first_state jobs report_rounds) events × AreGood (state_of (first_state jobs report_rounds) events) stretches × AllPairs IsBefore (books_of (state_of (first_state jobs report_rounds) events) stretches)
