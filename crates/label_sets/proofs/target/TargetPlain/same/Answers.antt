use Rattle.std.proofs.Common.{ap, sym, ◌∙◌}
use Rattle.label_sets.specs.declared.target.Parts.{Parts}
use Rattle.label_sets.proofs.Identity.{same_texts}
use Rattle.label_sets.proofs.target.TargetPlain.same.Goals as goal

-- the text decides the target
pub returns : goal.returns
returns c =
    let own = ap (λ (parts : Parts). parts.text) c.deref.ensures in
    let others = ap (λ (parts : Parts). parts.text) c.deref-2.ensures in
    rw (← c.self.view_is, ← c.other.view_is) (same_texts _ _ _ _ _ c.self.invariant.0 c.other.invariant.0 (λ yes. sym own ∙ c.same.ensures.0 yes ∙ others, λ e. c.same.ensures.1 (own ∙ e ∙ sym others)))
