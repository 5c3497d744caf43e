-- What holds of the allocator at every moment.
use Rattle.std.specs.Prelude.{◌≤◌, ℕ, List, All, length}
use Rattle.scrape_books.specs.declared.report.Entry.{Entry}
use Rattle.fleet.specs.IsFleet.{IsFleet}
use Rattle.fleet.specs.declared.job.JobSpec.{JobSpec}
use Rattle.fleet_events.specs.declared.event.Event.{Event}
use Rattle.handover.specs.declared.holders.TheConstants.{LAST_NUMBER}
use Rattle.allocation_core.specs.State.{State, first_state}
use Rattle.allocation_core.specs.Runs.{state_of}

pub record IsKept (m : State) : Type 0 where
  pub fleet : IsFleet m.fleet
  pub few_published : length m.published ≤ LAST_NUMBER
  -- lists have known targets, and collectors that joined once
  pub few_slots : length m.served.slots ≤ length m.fleet.known
  pub given_slots : All (λ (collector : ℕ). collector ≤ m.fleet.last_collector) m.served.slots
  pub opened : 1 ≤ m.round
  pub from_one : 1 ≤ m.begun
  pub begun : m.begun ≤ m.round
  -- no round past the open one is booked
  pub past_rounds : All (λ (b : ℕ × Entry). b.1.round ≤ m.round) m.booked

-- over every list of jobs and of events
abbrev pub AlwaysKept : Type 0
AlwaysKept = (jobs : List JobSpec) (report_rounds : ℕ) (events : List Event) → IsKept (state_of (first_state jobs report_rounds) events)
