-- What a pass is told: something of a history that is legal from the opening state, and that has at least what the pass did.
use Rattle.std.specs.Prelude.{◌≡◌, ◌≤◌, ◌<◌, ℕ, length}
use Rattle.allocation_core.specs.State.{State}
use Rattle.allocation_core.specs.Steps.{answer_of}
use Rattle.fleet_events.specs.declared.event.Event.{Event}
use Rattle.alloc_desk.specs.declared.limits.TheConstants.{MOST_ENTRIES}
use Rattle.alloc_desk.specs.declared.receipt.Receipt.{Receipt}
use Rattle.alloc_desk.specs.Counts.{Counts}
use Rattle.alloc_desk.specs.History.{History, gained_in}
use Rattle.journal_entries.specs.Legal.{IsLegal}

-- some history of which this holds
pub record Reached (opening : State) (counts : Counts) (Holds : History → Type 0) : Type 0 where
  pub history : History
  pub legal : IsLegal opening history.journal history.state
  pub calls : counts.calls ≤ length history.journal
  pub booked : counts.booked ≤ gained_in history.journal
  pub holds : Holds history

-- the receipt has the machine's answer to this event as the next one of the history
pub record IsReceipt (event : Event) (counts : Counts) (receipt : Receipt) (history : History) : Type 0 where
  pub position : receipt.position ≡ length history.journal
  pub room : receipt.position < MOST_ENTRIES
  pub seat : receipt.seat ≡ counts.seat
  pub answer : receipt.answer ≡ answer_of history.state event

-- its journal is full
abbrev pub IsFull : History → Type 0
IsFull history = length history.journal ≡ MOST_ENTRIES
