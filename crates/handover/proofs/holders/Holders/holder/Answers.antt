use Rattle.std.proofs.Common.{◌∙◌, ap, sym, subst, List, arith}
use Rattle.handover.specs.Handover.{Handover, holder_in}
use Rattle.handover.specs.Spans.{Row, AreRows, spans_of, holder_at}
use Rattle.handover.proofs.KeptLemmas.{current_is, holder_in-kept, holder_in-past}
use Rattle.handover.proofs.holders.Holders.holder.Goals as goal

pub returns-then-self-number : goal.returns-then-self-number
returns-then-self-number c =
    let count = current_is c.args.self.now c.self.inside.current c.self.inside.rows.items c.self.inside.taken.entries c.self.view_is in
    holder_in-past c.self.inside.current c.self.inside.rows.items c.args.number c.args.target (omega arith) ∙ ap (λ (h : Handover). holder_in h.published c.args.number c.args.target) c.self.view_is

pub holder_at-requires : goal.holder_at-requires
holder_at-requires c = (c.self.inside.current, subst (AreRows c.self.inside.current) (sym c.as_slice.ensures.value) c.self.invariant.spans)

pub returns : goal.returns
returns c =
    let count = current_is c.args.self.now c.self.inside.current c.self.inside.rows.items c.self.inside.taken.entries c.self.view_is in
    c.holder_at.ensures ∙ ap (λ (rows : List Row). holder_at (spans_of rows c.args.target) c.args.number) c.as_slice.ensures.value
    ∙ holder_in-kept c.self.inside.current c.self.inside.pairs c.self.inside.rows.items c.args.number c.args.target c.self.invariant (omega arith) ∙ ap (λ (h : Handover). holder_in h.published c.args.number c.args.target) c.self.view_is
