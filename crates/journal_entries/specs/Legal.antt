-- A journal, and whether it is one run of the machine.
use Rattle.std.specs.Prelude.{◌≡◌, List, map}
use Rattle.allocation_core.specs.State.{State}
use Rattle.allocation_core.specs.Runs.{answers_of, state_of}
use Rattle.fleet_events.specs.declared.event.Event.{Event}
use Rattle.fleet_events.specs.declared.answer.Answer.{Answer}
use Rattle.journal_entries.specs.declared.entry.Entry.{Entry}

-- the events of a journal, in order
abbrev pub events_in : List Entry → List Event
events_in entries = map (λ (e : Entry). e.event) entries

-- their answers
abbrev pub answers_in : List Entry → List Answer
answers_in entries = map (λ (e : Entry). e.answer) entries

-- a journal is legal from one state to another: it is one run of the machine, from the first to the second
pub record IsLegal (opening : State) (journal : List Entry) (end : State) : Type 0 where
  pub answers : answers_in journal ≡ answers_of opening (events_in journal)
  pub state : end ≡ state_of opening (events_in journal)
