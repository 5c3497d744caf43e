-- Answers to some events, and to one more behind them.
use Rattle.std.proofs.Common.{◌≡◌, ℕ, ◌+◌, ◌<◌, List, [], ◌∷◌, ◌++◌, length, get_or, take, sym, ap, subst, ◌∙◌}
use Rattle.std.proofs.lemmas.List.{take_more}
use mathlib.Core.List.{IsPrefix}
use Rattle.fleet_events.specs.declared.event.Event.{Event}
use Rattle.fleet_events.specs.declared.answer.Answer.{Answer}
use Rattle.journal_entries.specs.declared.entry.Entry.{Entry as Line}
use Rattle.allocation_core.specs.State.{State}
use Rattle.sd_server.specs.Says.{AreAnswers, IsAnswerTo}
use Rattle.sd_server.specs.Spans.{Moves, Span, between}
use Rattle.sd_server.proofs.SpanLemmas.{prefix_self, prefix_trans}

-- an entry that stands behind more stands behind less
answer_behind : (span : Span) (middle : List Line) (event : Event) (answer : Answer) → IsPrefix span.before middle → IsAnswerTo (record span { before = middle }) event answer → IsAnswerTo span event answer
answer_behind span middle event answer p one =
    let x = one.1 in (
      one.0,
      record {
        earlier = x.earlier;
        begun = prefix_trans span.before middle x.earlier p x.begun;
        stands = x.stands;
        told = x.told;
      },
      one.2,
    )

pub are_answers_more :
    (span : Span) (middle : List Line) (events : List Event) (answers : List Answer) (event : Event) (answer : Answer) → AreAnswers (record span { after = middle }) events answers
    → IsAnswerTo (record span { before = middle }) event answer → AreAnswers span (events ++ event ∷ []) (answers ++ answer ∷ [])
are_answers_more span middle [] [] event answer are one = (span.after, answer_behind span middle event answer are one, prefix_self span.after)
are_answers_more span middle [] (a ∷ rest) event answer are one = absurd are
are_answers_more span middle (e ∷ es) [] event answer are one = absurd are
are_answers_more span middle (e ∷ es) (a ∷ rest) event answer are one =
    (are.0, are.1, are_answers_more (record span { before = are.0 }) middle es rest event answer are.2 one)

-- the answers to the events up to the next one, as a loop over them meets it
pub are_answers_next :
    (first old new : Span) (events : List Event) (answers : List Answer) (i : ℕ) (event : Event) (answer : Answer) → i < length events → event ≡ get_or events i event → Moves old new
    → AreAnswers (between first old) (take i events) answers → IsAnswerTo (between old new) event answer → AreAnswers (between first new) (take (i + 1) events) (answers ++ answer ∷ [])
are_answers_next first old new events answers i event answer lt is m are one =
    let next : take (i + 1) events ≡ take i events ++ event ∷ [] = take_more events i event lt ∙ ap (λ (e : Event). take i events ++ e ∷ []) (sym is) in
    let here : AreAnswers (record { opening = new.opening; before = first.after; after = old.after }) (take i events) answers =
    subst (λ (o : State). AreAnswers (record { opening = o; before = first.after; after = old.after }) (take i events) answers) (sym m.opening) are in
    subst (λ (es : List Event). AreAnswers (between first new) es (answers ++ answer ∷ [])) (sym next)
    (are_answers_more (between first new) old.after (take i events) answers event answer here one)

-- what stands within less stands within more
are_answers_wider :
    (opening : State) (before less after more : List Line) (events : List Event) (answers : List Answer) → IsPrefix less before → IsPrefix after more
    → AreAnswers (record { opening = opening; before = before; after = after }) events answers → AreAnswers (record { opening = opening; before = less; after = more }) events answers
are_answers_wider opening before less after more [] [] p q are = prefix_trans less before more p (prefix_trans before after more are q)
are_answers_wider opening before less after more [] (a ∷ rest) p q are = absurd are
are_answers_wider opening before less after more (e ∷ es) [] p q are = absurd are
are_answers_wider opening before less after more (e ∷ es) (a ∷ rest) p q are = (
  are.0,
  answer_behind (record { opening = opening; before = less; after = are.0 }) before e a p are.1,
  are_answers_wider opening are.0 are.0 after more es rest (prefix_self are.0) q are.2,
)

-- the answers that were given between two moments, once more was seen
pub are_answers_later :
    (first middle final : Span) (events : List Event) (answers : List Answer) → Moves first middle → Moves middle final → AreAnswers (between first middle) events answers → AreAnswers final events answers
are_answers_later first middle final events answers m n are =
    let before : final.before ≡ first.before = n.before ∙ m.before in
    let wide : AreAnswers (record { opening = middle.opening; before = first.before; after = final.after }) events answers =
    are_answers_wider middle.opening first.after first.before middle.after final.after events answers m.begun n.after are in
    subst (λ (xs : List Line). AreAnswers (record { opening = final.opening; before = xs; after = final.after }) events answers) (sym before)
    (subst (λ (o : State). AreAnswers (record { opening = o; before = first.before; after = final.after }) events answers) (sym n.opening) wide)
