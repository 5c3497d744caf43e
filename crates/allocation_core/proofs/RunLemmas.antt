-- A run goes on by one step.
use Rattle.std.proofs.Common.{◌≡◌, ◌<◌, List, [], ◌∷◌, ◌++◌, length, refl, ap, arith}
use Rattle.allocation_core.specs.State.{State}
use Rattle.allocation_core.specs.Steps.{answer_of, state_after}
use Rattle.allocation_core.specs.Runs.{answers_of, state_of, StopsAt}
use Rattle.fleet_events.specs.declared.event.Event.{Event}
use Rattle.fleet_events.specs.declared.answer.Answer.{Answer}

pub state_of_push : (m : State) (es : List Event) (e : Event) → state_of m (es ++ e ∷ []) ≡ state_after (state_of m es) e
state_of_push m [] e = refl
state_of_push m (x ∷ es) e = state_of_push (state_after m x) es e

pub answers_of_push : (m : State) (es : List Event) (e : Event) → answers_of m (es ++ e ∷ []) ≡ answers_of m es ++ answer_of (state_of m es) e ∷ []
answers_of_push m [] e = refl
answers_of_push m (x ∷ es) e = ap (λ (as' : List Answer). answer_of m x ∷ as') (answers_of_push (state_after m x) es e)

pub state_of_append : (m : State) (es fs : List Event) → state_of m (es ++ fs) ≡ state_of (state_of m es) fs
state_of_append m [] fs = refl
state_of_append m (e ∷ es) fs = state_of_append (state_after m e) es fs

-- nothing was answered
pub stops_first : (m : State) (events : List Event) (answers : List Answer) → 0 < length events → answers ≡ [] → StopsAt m events answers m
stops_first m [] answers some none = absurd (omega arith)
stops_first m (e ∷ es) answers some none = ([], e, es, refl, none, refl)
