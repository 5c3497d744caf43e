use Rattle.std.proofs.Common.{◌≡◌, ap, sym, subst, List, None, arith}
use Rattle.std.specs.Prelude.{MatchOption}
use Rattle.std.proofs.lemmas.Bool.Decides.{nat_tests}
use Rattle.handover.specs.Spans.{holder_at, IsSince}
use Rattle.handover.specs.declared.spans.Span.{Span}
use Rattle.handover.proofs.RowLemmas.{spans_of-row, row_are, spans_of-past}
use Rattle.handover.proofs.rows.since_at.Goals as goal

pub since-requires : goal.since-requires
since-requires c = (c.requires.0, row_are c.requires.0 c.args.target c.args.rows.now c.in-Some.row.now (c.requires.1 c.args.target) (grind (arith, nat_tests, c.in-Some.ensures.lookup.0)) c.in-Some.ensures.lookup.1)

pub returns-in-Some : goal.returns-in-Some
returns-in-Some c =
    subst (λ (s : List Span). MatchOption c.since.result (holder_at s c.args.number ≡ None) (λ first. IsSince s c.args.number first))
    (sym (spans_of-row c.args.rows.now c.args.target c.in-Some.row.now (grind (arith, nat_tests, c.in-Some.ensures.lookup.0)) c.in-Some.ensures.lookup.1)) c.since.ensures

pub returns-in-None : goal.returns-in-None
returns-in-None c = ap (λ (s : List Span). holder_at s c.args.number) (spans_of-past c.args.rows.now c.args.target c.in-None.ensures.lookup.3)
