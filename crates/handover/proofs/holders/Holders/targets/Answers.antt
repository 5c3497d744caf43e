use Rattle.std.proofs.Common.{◌≡◌, ◌∙◌, ap, sym, subst, ℕ, List, IfOk, arith}
use Rattle.handover.specs.Handover.{Handover, targets_of, held_in}
use Rattle.handover.specs.Spans.{Row, AreRows, pairs_from}
use Rattle.handover.proofs.KeptLemmas.{current_is, held_in-kept}
use Rattle.handover.proofs.holders.Holders.targets.Goals as goal

pub held_at-requires-clause-spans : goal.held_at-requires-clause-spans
held_at-requires-clause-spans c = (c.self.inside.current, subst (AreRows c.self.inside.current) (sym c.as_slice-else-number-self.ensures.value) c.self.invariant.spans)

pub returns-then-number-self : goal.returns-then-number-self
returns-then-number-self c =
    let rows = c.self.inside.rows.items in
    let same = c.if-number-self.true in
    let is =
    ap (λ (ps : List (ℕ × ℕ)). targets_of ps c.args.collector) (c.as_slice.ensures ∙ c.self.invariant.current ∙ ap (pairs_from rows 0) (sym same))
    ∙ held_in-kept c.self.inside.current c.self.inside.pairs rows c.args.number c.args.collector c.self.invariant (omega arith) ∙ ap (λ (h : Handover). held_in h.published c.args.number c.args.collector) c.self.view_is in
    subst (λ (ts : List ℕ). IfOk c.targets_of.result (λ v. v.items ≡ ts)) is c.targets_of.ensures

pub returns-else-number-self : goal.returns-else-number-self
returns-else-number-self c =
    let rows = c.self.inside.rows.items in
    let count = current_is c.args.self.now c.self.inside.current rows c.self.inside.taken.entries c.self.view_is in
    let is =
    ap (λ (rs : List Row). targets_of (pairs_from rs 0 c.args.number) c.args.collector) c.as_slice-else-number-self.ensures.value
    ∙ held_in-kept c.self.inside.current c.self.inside.pairs rows c.args.number c.args.collector c.self.invariant (omega arith) ∙ ap (λ (h : Handover). held_in h.published c.args.number c.args.collector) c.self.view_is in
    subst (λ (ts : List ℕ). IfOk c.held_at.result (λ v. v.items ≡ ts)) is c.held_at.ensures
