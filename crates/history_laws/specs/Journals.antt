-- Journals in order are one history.
use Rattle.std.specs.Prelude.{◌≡◌, ℕ, List, [], ◌∷◌, AllPairs, Some, Ok, length, slice_get}
use Rattle.scrape_books.specs.declared.report.Entry.{Entry}
use Rattle.sealed_lines.specs.Reading.{plain_of}
use Rattle.fleet_events.specs.declared.event.Event.{Event}
use Rattle.allocation_core.specs.Runs.{state_of}
use Rattle.allocation_core.specs.State.{State}
use Rattle.renewal.specs.Continuity.{job_name, text_of}
use Rattle.renewal.specs.Histories.{AreGranted, IsBefore, Stretch, books_of, stretch_end}
use Rattle.allocation_core.specs.Renewed.{renewed}
use Rattle.replay_lines.specs.AsRuns.{events_of}
use Rattle.replay_lines.specs.Configurations.{opened}
use Rattle.replay_lines.specs.Replays.{lines_in}
use Rattle.replay_lines.specs.Resumes.{resumed, resumption_at}
use Rattle.audit.specs.Renewals.{AreRenewals}
use Rattle.history_laws.specs.Promises.{IsPromised}

-- The journal of a file opens the state, and its further lines are empty or say the events, in order: so it leads to the state after them.
pub record IsToldBy (file : List ℕ) (start : State) (events : List Event) : Type 0 where
  pub journal : List ℕ
  pub first : List ℕ
  pub lines : List (List ℕ)
  pub plain : plain_of file ≡ Ok journal
  pub split : lines_in journal ≡ first ∷ lines
  pub opens : opened first ≡ Some start
  pub says : events_of lines ≡ events
  pub leads : resumed journal ≡ Ok (resumption_at (state_of start events) (length events))

-- each file tells of a stretch, in order: it opens the renewal of the state in which the one before ended
abbrev pub AreToldBy : State → List Stretch → List (List ℕ) → Type 0
AreToldBy m [] [] = Unit {0}
AreToldBy m [] (file ∷ files) = ⊥
AreToldBy m (stretch ∷ stretches) [] = ⊥
AreToldBy m (stretch ∷ stretches) (file ∷ files) = IsToldBy file (renewed m stretch.jobs stretch.report_rounds) stretch.events × AreToldBy (stretch_end m stretch) stretches files

-- what is promised holds of each stretch
abbrev pub ArePromised : State → List Stretch → Type 0
ArePromised m [] = Unit {0}
ArePromised m (stretch ∷ stretches) = IsPromised (renewed m stretch.jobs stretch.report_rounds) stretch.events × ArePromised (stretch_end m stretch) stretches

-- the state in which each file ends, beginning with that of the first
abbrev pub ends_of : State → List Stretch → List State
ends_of m [] = m ∷ []
ends_of m (stretch ∷ stretches) = m ∷ ends_of (stretch_end m stretch) stretches

-- Two booked reports of one target, by the name of its job and its text, and of one round are the same: they are booked in one file and
-- in one place.
abbrev pub IsBookedOnce : List State → Type 0
IsBookedOnce ends =
    (file other_file place other_place : ℕ) (m n : State) (a b : ℕ × Entry) → slice_get ends file ≡ Some m → slice_get ends other_file ≡ Some n → slice_get m.booked place ≡ Some a → slice_get n.booked other_place ≡ Some b
    → job_name m.fleet a.0 ≡ job_name n.fleet b.0 → text_of m.fleet a.0 ≡ text_of n.fleet b.0 → a.1.round ≡ b.1.round → (file ≡ other_file) × (place ≡ other_place)

-- Files in order, of which this is the first, tell of one history: events from a state, and stretches behind them.
pub record IsHistory (file : List ℕ) (files : List (List ℕ)) : Type 0 where
  pub start : State
  pub events : List Event
  pub stretches : List Stretch
  pub first : IsToldBy file start events
  pub rest : AreToldBy (state_of start events) stretches files
  -- no renewal is refused
  pub granted : AreGranted (state_of start events) stretches
  pub good : IsPromised start events
  pub all_good : ArePromised (state_of start events) stretches
  -- each round that a file books is before each that a later one books
  pub apart : AllPairs IsBefore (books_of (state_of start events) stretches)
  pub once : IsBookedOnce (ends_of (state_of start events) stretches)

-- files in which an audit finds no fault
abbrev pub ConsistentAreHistories : Type 0
ConsistentAreHistories = (file : List ℕ) (files : List (List ℕ)) → AreRenewals (file ∷ files) → IsHistory file files
