use Rattle.std.proofs.Common.{[], inl}
use Rattle.std.specs.Arc.{arc_value}
use Rattle.sd_routes.specs.declared.responding.Said.{Said}
use Rattle.sd_server.specs.Says.{Says, SaysIn}
use Rattle.sd_server.specs.Spans.{Span}
use Rattle.sd_server.proofs.SpanLemmas.{some_of_all}
use Rattle.sd_server.proofs.handler.Handler.document.Goals as goal

-- no event is asked for
pub returns-in-Books-clause-says : goal.returns-in-Books-clause-says
unfolding SaysIn
returns-in-Books-clause-says g c = rw c.in-Books.is (0, inl c.books_document.ensures.says)

pub returns-in_default-clause-says : goal.returns-in_default-clause-says
returns-in_default-clause-says g c =
    some_of_all (λ (span : Span) (said : Said). Says span (arc_value c.args.self.now.pages) c.args.ask.now [] said) _ c.plain_document.result c.plain_document.ensures
