use Rattle.std.proofs.Common.{take}
use Rattle.sd_server.specs.Says.{AreAnswers}
use Rattle.sd_server.specs.Spans.{Moves, between}
use Rattle.sd_server.proofs.handler.Handler.answered_each.Given as goal

abbrev pub invariant-loop-event : goal.invariant-loop-event
invariant-loop-event g l = Moves l.fn.seen l.seen × AreAnswers (between l.fn.seen l.seen) (take l.event-index l.events) l.answers
