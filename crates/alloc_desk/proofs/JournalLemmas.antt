-- A legal journal stays legal over an event with its answer.
use Rattle.std.proofs.Common.{◌≡◌, ℕ, List, [], ◌∷◌, ◌++◌, refl, ap, sym, ◌∙◌, subst}
use Rattle.fleet.specs.declared.job.JobSpec.{JobSpec}
use Rattle.allocation_core.specs.State.{State, first_state}
use Rattle.allocation_core.specs.Steps.{answer_of, state_after}
use Rattle.allocation_core.specs.Runs.{answers_of, state_of}
use Rattle.allocation_core.proofs.RunLemmas.{answers_of_push, state_of_append, state_of_push}
use Rattle.fleet_events.specs.declared.event.Event.{Event}
use Rattle.fleet_events.specs.declared.answer.Answer.{Answer}
use Rattle.journal_entries.specs.declared.entry.Entry.{Entry}
use Rattle.alloc_desk.specs.History.{History, end_of}
use Rattle.journal_entries.specs.Legal.{IsLegal, answers_in, events_in}

events_in_push : (es : List Entry) (e : Entry) → events_in (es ++ e ∷ []) ≡ events_in es ++ e.event ∷ []
events_in_push [] e = refl
events_in_push (x ∷ es) e = ap (λ (events : List Event). x.event ∷ events) (events_in_push es e)

answers_in_push : (es : List Entry) (e : Entry) → answers_in (es ++ e ∷ []) ≡ answers_in es ++ e.answer ∷ []
answers_in_push [] e = refl
answers_in_push (x ∷ es) e = ap (λ (answers : List Answer). x.answer ∷ answers) (answers_in_push es e)

pub legal_push : (m : State) (es : List Entry) (n : State) (e : Entry) → IsLegal m es n → e.answer ≡ answer_of n e.event → IsLegal m (es ++ e ∷ []) (state_after n e.event)
legal_push m es n e legal is = record {
  answers =
      answers_in_push es e
      ∙ ((λ i. legal.answers i ++ (is ∙ ap (λ (s : State). answer_of s e.event) legal.state) i ∷ [])
      ∙ (sym (answers_of_push m (events_in es) e.event) ∙ ap (answers_of m) (sym (events_in_push es e))));
  state =
      ap (λ (s : State). state_after s e.event) legal.state
      ∙ (sym (state_of_push m (events_in es) e.event) ∙ ap (state_of m) (sym (events_in_push es e)));
}

-- it leads to another state then
pub legal_next : (m : State) (es : List Entry) (e : Entry) → e.answer ≡ answer_of (end_of m es) e.event → IsLegal m es (end_of m es) → IsLegal m (es ++ e ∷ []) (end_of m (es ++ e ∷ []))
legal_next m es e is legal = record { answers = (legal_push m es (end_of m es) e legal is).answers; state = refl }

-- a history that grew by this entry
pub legal_after : (m : State) (h h' : History) (e : Entry) → h'.journal ≡ h.journal ++ e ∷ [] → h'.state ≡ state_after h.state e.event → e.answer ≡ answer_of h.state e.event
    → IsLegal m h.journal h.state → IsLegal m h'.journal h'.state
legal_after m h h' e journal state is legal =
    let Ends : State → Type 0 = IsLegal m h'.journal in
    let From : List Entry → Type 0 = λ es. IsLegal m es (state_after h.state e.event) in
    subst Ends (sym state) (subst From (sym journal) (legal_push m h.journal h.state e legal is))

-- where a legal journal ends, after what came before it
pub ends_at : {m n : State} {es : List Entry} (jobs : List JobSpec) (report_rounds : ℕ) (earlier : List Event) → IsLegal m es n → m ≡ state_of (first_state jobs report_rounds) earlier
    → n ≡ state_of (first_state jobs report_rounds) (earlier ++ events_in es)
ends_at {es = es} jobs report_rounds earlier legal opened =
    legal.state ∙ (ap (λ (s : State). state_of s (events_in es)) opened ∙ sym (state_of_append (first_state jobs report_rounds) earlier (events_in es)))
