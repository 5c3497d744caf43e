-- Events that change nothing.
use Rattle.std.specs.Prelude.{◌≡◌, Option, Some, None}
use Rattle.fleet_events.specs.declared.event.Event.{Event}
use Rattle.fleet_events.specs.declared.answer.Answer.{Answer}
use Rattle.allocation_core.specs.State.{State}
use Rattle.allocation_core.specs.Steps.{answer_of, state_after}

-- the answer, if there is one, is that to the event, and the event leaves the state as it is
abbrev pub IsIdle : State → Event → Option Answer → Type 0
IsIdle m event None = Unit {0}
IsIdle m event (Some answer) = (answer ≡ answer_of m event) × (state_after m event ≡ m)
