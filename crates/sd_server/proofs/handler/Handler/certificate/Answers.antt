use Rattle.std.proofs.Common.{◌≡◌}
use Rattle.alloc_desk.specs.History.{History}
use Rattle.sd_server.specs.Texts.{certificate_text}
use Rattle.sd_server.proofs.SpanLemmas.{some_now}
use Rattle.sd_server.proofs.handler.Handler.certificate.Goals as goal

pub returns-in-Ok-clause-says : goal.returns-in-Ok-clause-says
returns-in-Ok-clause-says g c =
    let P : History → Type 0 = λ h. c.in-Ok.text ≡ certificate_text h in some_now c.args.seen.now c.certificate_text.new.seen P c.in-Ok.ensures.moves c.in-Ok.ensures.text
