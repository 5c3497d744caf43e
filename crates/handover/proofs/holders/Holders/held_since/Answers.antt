use Rattle.std.proofs.Common.{◌≡◌, ◌∙◌, ap, sym, subst, List, None}
use Rattle.std.specs.Prelude.{MatchOption}
use Rattle.handover.specs.Handover.{Handover, held_since}
use Rattle.handover.specs.Spans.{Row, AreRows, spans_of, holder_at, IsSince}
use Rattle.handover.proofs.KeptLemmas.{held_since-kept}
use Rattle.handover.proofs.holders.Holders.held_since.Goals as goal

pub since_at-requires : goal.since_at-requires
since_at-requires c = (c.self.inside.current, subst (AreRows c.self.inside.current) (sym c.as_slice.ensures.value) c.self.invariant.spans)

pub returns : goal.returns
returns c =
    let found = subst (λ (rows : List Row). MatchOption c.since_at.result (holder_at (spans_of rows c.args.target) c.self.inside.current ≡ None) (λ first. IsSince (spans_of rows c.args.target) c.self.inside.current first)) c.as_slice.ensures.value c.since_at.ensures in
    held_since-kept c.self.inside.current c.self.inside.pairs c.self.inside.rows.items c.args.target c.since_at.result c.self.invariant found ∙ ap (λ (h : Handover). held_since h.published c.args.target) c.self.view_is
