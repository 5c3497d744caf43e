use Rattle.std.proofs.Common.{inr}
use Rattle.std.specs.Prelude.{Some}
use Rattle.allocation_core.specs.Idle.{IsIdle}
use Rattle.alloc_desk.specs.History.{History}
use Rattle.sd_server.proofs.SpanLemmas.{some_now}
use Rattle.sd_server.proofs.handler.Handler.answered.Goals as goal

pub returns-in-Some-clause-answer : goal.returns-in-Some-clause-answer
returns-in-Some-clause-answer g c =
    let P : History → Type 0 = λ h. IsIdle h.state c.args.event (Some c.in-Some.told) in
    inr (some_now c.args.seen.now c.unchanged.new.seen P c.in-Some.ensures.moves c.in-Some.ensures.read)
