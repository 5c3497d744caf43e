-- What an event is answered that would change nothing at a moment.
use Rattle.std.specs.Prelude.{◌≡◌, ℕ, length, Option, Some, None}
use Rattle.fleet_events.specs.declared.answer.Answer.{Answer}
use Rattle.fleet_events.specs.declared.event.Event.{Event}
use Rattle.allocation_core.specs.Idle.{IsIdle}
use Rattle.alloc_desk.specs.History.{History}

-- the answer, if there is one, is that to the event after so many entries, and the event leaves the state as it is
abbrev pub IsIdleAt : Event → History → Option (ℕ × Answer) → Type 0
IsIdleAt event h None = Unit {0}
IsIdleAt event h (Some told) = (told.0 ≡ length h.journal) × IsIdle h.state event (Some told.1)
