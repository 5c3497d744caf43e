-- A state, and the journal that leads to it.
use Rattle.std.specs.Prelude.{◌≡◌, ◌≤◌, ◌+◌, ◌*◌, ℕ, List, length, sum_by}
use Rattle.scrape_books.specs.Books.{total_of}
use Rattle.allocation_core.specs.State.{State}
use Rattle.allocation_core.specs.Steps.{gained}
use Rattle.allocation_core.specs.Runs.{state_of}
use Rattle.journal_entries.specs.Legal.{IsLegal, events_in}
use Rattle.journal_entries.specs.declared.entry.Entry.{Entry}
use Rattle.alloc_desk.specs.declared.limits.TheConstants.{MOST_ENTRIES}

pub record History : Type 0 where
  pub state : State
  pub journal : List Entry

-- the state that a journal leads to
abbrev pub end_of : State → List Entry → State
end_of opening journal = state_of opening (events_in journal)

-- a journal with the state that it leads to
abbrev pub history_of : State → List Entry → History
history_of opening journal = record { state = end_of opening journal; journal = journal }

-- the samples that a journal booked
abbrev pub gained_in : List Entry → ℕ
gained_in entries = sum_by (λ (e : Entry). gained e.event e.answer) entries

-- what is true while the lock is free: the journal is legal, and the two ledgers have its length and what it booked
pub record IsAccounted (opening : State) (history : History) (call_total sample_total : ℕ) : Type 0 where
  pub legal : IsLegal opening history.journal history.state
  pub calls : call_total ≡ length history.journal
  pub samples : sample_total ≡ gained_in history.journal
  pub total : total_of history.state.booked ≡ total_of opening.booked + gained_in history.journal
  pub most_calls : length history.journal ≤ MOST_ENTRIES
  pub most_samples : gained_in history.journal ≤ length history.journal * 4294967295
