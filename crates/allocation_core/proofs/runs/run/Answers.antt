use Rattle.std.proofs.Common.{◌++◌, ◌∷◌, [], refl, ap, sym, ◌∙◌, arith}
use Rattle.std.proofs.lemmas.Grind.{common_steps}
use Rattle.allocation_core.specs.State.{State}
use Rattle.allocation_core.specs.Steps.{answer_of, state_after}
use Rattle.allocation_core.proofs.BestLemmas.{best_after_earlier}
use Rattle.allocation_core.proofs.BookedLemmas.{booked_after_earlier}
use Rattle.allocation_core.proofs.RunLemmas.{state_of_push, answers_of_push, stops_first}
use Rattle.allocation_core.proofs.runs.run.Goals as goal

pub loop-event-preserved : goal.loop-event-preserved
loop-event-preserved c =
    let inv = c.loop-event.invariant in
    let so_far = c.loop-event.yielded in
    let event = c.in-Some.event in
    let m = c.args.core.now in
    record {
      answers =
          c.push_reserved.ensures.items
          ∙ ((λ i. inv.answers i ++ (c.in-Ok.ensures.answer ∙ ap (λ (s : State). answer_of s event) inv.state) i ∷ [])
          ∙ sym (answers_of_push m so_far event));
      state = c.in-Ok.ensures.state ∙ (ap (λ (s : State). state_after s event) inv.state ∙ sym (state_of_push m so_far event));
      count = grind (arith, common_steps);
      room = grind (arith, common_steps);
      rest = grind (arith, common_steps);
    }

pub returns-in-Err-clause-best : goal.returns-in-Err-clause-best
returns-in-Err-clause-best c =
    let inv = c.loop-event.invariant in
    λ jobs report_rounds earlier opened. best_after_earlier c.published_are_best.ensures jobs report_rounds earlier c.args.events.items c.loop-event.yielded c.loop-event.event-iterator.rest.items c.args.core.now c.apply.new.self opened (sym inv.rest) (c.in-Err.ensures.err ∙ inv.state)

pub returns-clause-best : goal.returns-clause-best
returns-clause-best c =
    let inv = c.loop-event.invariant in
    λ jobs report_rounds earlier opened. best_after_earlier c.published_are_best.ensures jobs report_rounds earlier c.args.events.items c.loop-event.yielded c.loop-event.event-iterator.rest.items c.args.core.now c.loop-event.core opened (sym inv.rest) inv.state

pub returns-in-Err-clause-booked : goal.returns-in-Err-clause-booked
returns-in-Err-clause-booked c =
    let inv = c.loop-event.invariant in
    λ jobs report_rounds earlier opened. booked_after_earlier c.booked_by_holders.ensures jobs report_rounds earlier c.args.events.items c.loop-event.yielded c.loop-event.event-iterator.rest.items c.args.core.now c.apply.new.self opened (sym inv.rest) (c.in-Err.ensures.err ∙ inv.state)

pub returns-clause-booked : goal.returns-clause-booked
returns-clause-booked c =
    let inv = c.loop-event.invariant in
    λ jobs report_rounds earlier opened. booked_after_earlier c.booked_by_holders.ensures jobs report_rounds earlier c.args.events.items c.loop-event.yielded c.loop-event.event-iterator.rest.items c.args.core.now c.loop-event.core opened (sym inv.rest) inv.state

pub returns-then-is_err-clause-best : goal.returns-then-is_err-clause-best
returns-then-is_err-clause-best c = λ jobs report_rounds earlier reached. best_after_earlier c.published_are_best.ensures jobs report_rounds earlier c.args.events.items [] c.args.events.items c.args.core.now c.args.core.now reached refl refl

pub returns-then-is_err-clause-booked : goal.returns-then-is_err-clause-booked
returns-then-is_err-clause-booked c = λ jobs report_rounds earlier reached. booked_after_earlier c.booked_by_holders.ensures jobs report_rounds earlier c.args.events.items [] c.args.events.items c.args.core.now c.args.core.now reached refl refl

pub returns-then-is_err-clause-stopped : goal.returns-then-is_err-clause-stopped
returns-then-is_err-clause-stopped c = stops_first c.args.core.now c.args.events.items c.reserve.new.self.items (grind (arith, common_steps)) (c.reserve.ensures.items ∙ c.new-answers.ensures.items)
