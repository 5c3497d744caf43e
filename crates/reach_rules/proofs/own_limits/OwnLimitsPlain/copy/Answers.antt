use Rattle.std.proofs.Common.{ap, ◌∙◌}
use Rattle.std.proofs.lemmas.Result.{IfOk-weaker}
use Rattle.reach_rules.specs.OwnLimits.{limits_of}
use Rattle.reach_rules.proofs.Limits.{limits_of-sorted}
use Rattle.reach_rules.proofs.own_limits.OwnLimitsPlain.copy.Goals as goal

pub returns : goal.returns
returns c =
    IfOk-weaker c.of.result _ _ (λ l is. is ∙ ap limits_of c.as_slice.ensures.value ∙ limits_of-sorted c.self.inside.entries.items c.self.invariant ∙ c.self.view_is) c.of.ensures.limits
