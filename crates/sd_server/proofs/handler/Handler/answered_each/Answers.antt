use Rattle.std.proofs.Common.{◌+◌, List, take, sym, subst}
use Rattle.fleet_events.specs.declared.answer.Answer.{Answer}
use Rattle.sd_server.specs.Says.{AreAnswers}
use Rattle.sd_server.specs.Spans.{between}
use Rattle.sd_server.proofs.ReportLemmas.{are_answers_next}
use Rattle.sd_server.proofs.SpanLemmas.{moves_trans, prefix_self}
use Rattle.sd_server.proofs.handler.Handler.answered_each.Goals as goal

pub loop-event-init : goal.loop-event-init
loop-event-init g c = (c.now.ensures.stays, rw c.before.new-answers.ensures (prefix_self c.args.seen.now.after))

pub loop-event-preserved : goal.loop-event-preserved
loop-event-preserved g c =
    let first = c.args.seen.now in
    let old = c.loop-event.seen in
    let new = c.answered_one.new.seen in
    let i = c.loop-event.event-index in (
      moves_trans first old new c.loop-event.invariant.0 c.in_ok-answer.ensures.moves,
      subst (λ (told : List Answer). AreAnswers (between first new) (take (i + 1) c.args.events.now) told) (sym c.in-Ok.ensures.ok)
          (are_answers_next first old new c.args.events.now c.loop-event.answers i c.event-item.result c.in_ok-answer.answer c.loop-event-test.true c.event-item.is c.in_ok-answer.ensures.moves c.loop-event.invariant.1 c.in_ok-answer.ensures.answer),
    )

pub returns-in_err-answer-clause-moves : goal.returns-in_err-answer-clause-moves
returns-in_err-answer-clause-moves g c = moves_trans c.args.seen.now c.loop-event.seen c.answered_one.new.seen c.loop-event.invariant.0 c.in_err-answer.ensures.moves

pub returns-in-Err-clause-moves : goal.returns-in-Err-clause-moves
returns-in-Err-clause-moves g c = moves_trans c.args.seen.now c.loop-event.seen c.answered_one.new.seen c.loop-event.invariant.0 c.in_ok-answer.ensures.moves
