-- Runs of the machine: the answers to a list of events in order, and the last state.
use Rattle.std.specs.Prelude.{◌≡◌, List, [], ◌∷◌, ◌++◌}
use Rattle.allocation_core.specs.State.{State}
use Rattle.allocation_core.specs.Steps.{answer_of, state_after}
use Rattle.fleet_events.specs.declared.event.Event.{Event}
use Rattle.fleet_events.specs.declared.answer.Answer.{Answer}

abbrev pub answers_of : State → List Event → List Answer
answers_of m [] = []
answers_of m (event ∷ events) = answer_of m event ∷ answers_of (state_after m event) events

abbrev pub state_of : State → List Event → State
state_of m [] = m
state_of m (event ∷ events) = state_of (state_after m event) events

-- the run stopped after these answers, at this state, with events left
abbrev pub StopsAt : State → List Event → List Answer → State → Type 0
StopsAt old events answers new =
    (done : List Event) × (wanting : Event) × (left : List Event) × (events ≡ done ++ wanting ∷ left) × (answers ≡ answers_of old done) × (new ≡ state_of old done)
