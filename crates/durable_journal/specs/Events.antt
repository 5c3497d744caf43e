-- Lines of events, as they are written one after the other.
use Rattle.std.specs.Prelude.{◌≡◌, ℕ, List, [], ◌∷◌, Some}
use Rattle.fleet_events.specs.Reading.{event_of}
use Rattle.fleet_events.specs.Writing.{event_text}
use Rattle.fleet_events.specs.declared.event.Event.{Event}
use Rattle.sealed_lines.specs.Lines.{HasNoFeed, with_line}

-- the line of each event, in order
abbrev pub events_text : List Event → List ℕ
events_text [] = []
events_text (event ∷ events) = with_line (event_text event) (events_text events)

-- the line stands in one line, and says the event
pub record IsLineOf (line : List ℕ) (event : Event) : Type 0 where
  pub one_line : HasNoFeed line
  pub says : event_of line ≡ Some event

-- the lines of events, without line feeds
abbrev pub event_lines : List Event → List (List ℕ)
event_lines [] = []
event_lines (event ∷ events) = event_text event ∷ event_lines events

-- the line of each event says it
abbrev pub AreSaid : List Event → Type 0
AreSaid [] = Unit {0}
AreSaid (event ∷ events) = IsLineOf (event_text event) event × AreSaid events

-- a line for each of the events, in order, each ended by a line feed
unfoldable pub SaysEvents : List ℕ → List Event → Type 0
SaysEvents text [] = text ≡ []
SaysEvents text (event ∷ events) = (line : List ℕ) × (rest : List ℕ) × (text ≡ with_line line rest) × IsLineOf line event × SaysEvents rest events

-- lines of events that say them are such a text
abbrev pub SaysAll : Type 0
SaysAll = (events : List Event) → AreSaid events → SaysEvents (events_text events) events
