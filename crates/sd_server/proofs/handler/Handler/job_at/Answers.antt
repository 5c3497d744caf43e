use Rattle.std.proofs.Common.{◌≡◌}
use Rattle.alloc_desk.specs.History.{History}
use Rattle.sd_server.specs.Texts.{job_text}
use Rattle.sd_server.proofs.SpanLemmas.{some_now}
use Rattle.sd_server.proofs.handler.Handler.job_at.Goals as goal

pub returns-in-Ok-clause-says : goal.returns-in-Ok-clause-says
returns-in-Ok-clause-says g c =
    let P : History → Type 0 = λ h. c.in-Ok.text ≡ job_text c.args.job.now c.args.place h in
    some_now c.args.seen.now c.job_text.new.seen P c.in-Ok.ensures.moves c.in-Ok.ensures.text
