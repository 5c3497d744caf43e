-- Journals, and what of one is found again after a crash.
use Rattle.std.specs.Prelude.{◌≡◌, ℕ, List, [], ◌++◌, length, Ok, Some, nat_eq, true}
use Rattle.std.specs.List.{starts_with}
use Rattle.allocation_core.specs.State.{State}
use Rattle.allocation_core.specs.Runs.{state_of}
use Rattle.fleet_events.specs.declared.event.Event.{Event}
use Rattle.replay_lines.specs.Configurations.{opened}
use Rattle.replay_lines.specs.Resumes.{resumed, resumption_at}
use Rattle.durable_journal.specs.Events.{SaysEvents, events_text}
use Rattle.sealed_lines.specs.Lines.{HasNoFeed, with_line, written}
use Rattle.durable_journal.specs.Lines.{whole_part}
use Rattle.durable_journal.specs.Marks.{begins_journal, is_journal_text, mark_text}

-- a first line that opens the state, and then a line for each of the events
pub record IsJournal (text : List ℕ) (m : State) (events : List Event) : Type 0 where
  pub first : List ℕ
  pub lines : List ℕ
  pub whole : text ≡ with_line first lines
  pub one_line : HasNoFeed first
  pub opens : opened first ≡ Some m
  pub says : SaysEvents lines events

-- whatever lines were written whole are kept, and what follows them without a line feed is not
abbrev pub Settles : Type 0
Settles = (lines : List (List ℕ)) (torn : List ℕ) → HasNoFeed torn → whole_part (written lines ++ torn) ≡ written lines

-- a journal to which lines of events are appended is one of these events too
abbrev pub Grows : Type 0
Grows = (text more : List ℕ) (m : State) (events others : List Event) → IsJournal text m events → SaysEvents more others → IsJournal (text ++ more) m (events ++ others)

-- a journal leads to the state after its events
abbrev pub Resumes : Type 0
Resumes = (text : List ℕ) (m : State) (events : List Event) → IsJournal text m events → resumed text ≡ Ok (resumption_at (state_of m events) (length events))

-- what is found in a file that begins with a journal: the journal of its events and a beginning of the others
pub record IsFound (found : List ℕ) (m : State) (events others : List Event) : Type 0 where
  pub done : List Event
  pub left : List Event
  pub part : others ≡ done ++ left
  pub journal : IsJournal found m (events ++ done)
  pub state : resumed found ≡ Ok (resumption_at (state_of m (events ++ done)) (length (events ++ done)))

-- what follows a journal without a line feed is cut
abbrev pub IgnoresTorn : Type 0
IgnoresTorn = (text torn : List ℕ) (m : State) (events : List Event) → IsJournal text m events → HasNoFeed torn → whole_part (text ++ torn) ≡ text

-- A crash leaves a journal and a beginning of what was being appended to it. Then no event of the journal is lost.
abbrev pub Survives : Type 0
Survives =
    (text front lost : List ℕ) (m : State) (events others : List Event) → IsJournal text m events → SaysEvents (front ++ lost) others
    → IsFound (whole_part (text ++ front)) m events others

-- What a crash leaves of an append to a journal, that begins with the mark or is told by what it has, is told to be a journal: it is found, and
-- not refused.
abbrev pub Accepts : Type 0
Accepts =
    (text front lost : List ℕ) (m : State) (events others : List Event) → IsJournal text m events → begins_journal text ≡ true → front ++ lost ≡ events_text others
    → is_journal_text (text ++ front) ≡ true

-- So is what it leaves of a first line with the mark.
abbrev pub AcceptsFirst : Type 0
AcceptsFirst = (line front lost : List ℕ) → HasNoFeed line → starts_with nat_eq line mark_text ≡ true → front ++ lost ≡ with_line line [] → is_journal_text front ≡ true
