use Rattle.std.proofs.Common.{◌≡◌}
use Rattle.alloc_desk.specs.History.{History}
use Rattle.sd_server.proofs.ReportLemmas.{are_answers_later}
use Rattle.sd_server.proofs.SpanLemmas.{some_now}
use Rattle.sd_server.proofs.handler.Handler.reported.Goals as goal

pub returns-in-Ok-open_round-clause-says : goal.returns-in-Ok-open_round-clause-says
returns-in-Ok-open_round-clause-says g c =
    let middle = c.answered_each.new.seen in
    let end = c.open_round.new.seen in
    let P : History → Type 0 = λ h. h.state.round ≡ c.in-Ok-open_round.round in (
      are_answers_later c.args.seen.now middle end c.args.events.now c.in-Ok.answers c.in-Ok.ensures.moves c.open_round.ensures.moves c.in-Ok.ensures.answers,
      some_now middle end P c.open_round.ensures.moves c.in-Ok-open_round.ensures.read,
    )
