use Rattle.std.proofs.Common.{ap, sym, subst, ◌∙◌, inr}
use Rattle.std.specs.Arc.{arc_value}
use Rattle.sd_routes.specs.declared.request_error.RequestError.TheVariants.{Memory}
use Rattle.sd_routes.specs.declared.responding.Said.{Said}
use Rattle.sd_routes.specs.declared.responding.Said.TheVariants.{Refused}
use Rattle.sd_server.specs.Entries.{IsPast}
use Rattle.sd_server.specs.Spans.{Span}
use Rattle.sd_server.specs.declared.entry.Entry.TheVariants as entry
use Rattle.sd_server.proofs.Weaker.{reads_to, told_to}
use Rattle.sd_server.proofs.service.AllocatorServiceServiceRequestIncoming.call.Goals as goal

pub returns-in-Told-clause-called : goal.returns-in-Told-clause-called
returns-in-Told-clause-called g c =
    let handler = c.args.self.now.handler in
    let began = rw c.into_parts-head.ensures at c.in-Told.ensures.begins in (
      ap (λ (s : Span). s.opening) c.told.ensures.seen ∙ (c.begin.ensures.moves.opening ∙ c.seen-seen.ensures.opening),
      told_to g.N.JournalName.keeps handler.kept (arc_value handler.pages) _ c.begin.new.seen c.told.result.seen c.in-Told.entry c.told.result.stage c.told.ensures.stage c.told.ensures.seen began,
    )

pub returns-in-Ok-clause-called : goal.returns-in-Ok-clause-called
returns-in-Ok-clause-called g c =
    let handler = c.args.self.now.handler in
    let began = rw c.into_parts-head.ensures at c.in-Reads.ensures.begins in
    let reads = rw c.in-Ok.ensures.same.0 at c.to.ensures.stage in (
      ap (λ (s : Span). s.opening) c.to.ensures.seen ∙ (c.begin.ensures.moves.opening ∙ c.seen-seen.ensures.opening),
      reads_to g.N.JournalName.keeps handler.kept c.in-Ok.handler.kept (arc_value handler.pages) c.in-Reads.ask _ c.to.result.seen c.to.result.stage c.in-Ok.ensures.same.1 began.0 began.1 reads,
    )

pub returns-in-Err-clause-called : goal.returns-in-Err-clause-called
returns-in-Err-clause-called g c =
    let handler = c.args.self.now.handler in
    let seen = c.begin.new.seen in (
      ap (λ (s : Span). s.opening) c.without_memory.ensures.seen ∙ (c.begin.ensures.moves.opening ∙ c.seen-seen.ensures.opening),
      told_to g.N.JournalName.keeps handler.kept (arc_value handler.pages) _ seen c.without_memory.result.seen (entry.Now (Refused Memory)) c.without_memory.result.stage c.without_memory.ensures.stage c.without_memory.ensures.seen
          (λ said is. inr is, λ said is some. subst (λ (s : Said). IsPast g.N.JournalName.keeps seen s) (sym is) tt),
    )
