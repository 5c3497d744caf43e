use Rattle.std.proofs.Common.{inl}
use Rattle.sd_server.proofs.SpanLemmas.{answered_later}
use Rattle.sd_server.proofs.handler.Handler.given.Goals as goal

pub returns-in-Ok-clause-says : goal.returns-in-Ok-clause-says
returns-in-Ok-clause-says g c =
    inl (c.in-Ok.answer, answered_later c.answered.new.seen c.told.new.seen c.args.event c.in-Ok.answer c.told.ensures.moves c.in-Ok.ensures.answer, c.told.ensures.says)
