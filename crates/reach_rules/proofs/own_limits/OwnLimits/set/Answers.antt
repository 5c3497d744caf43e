use Rattle.std.proofs.Common.{cond, ap, ◌∙◌}
use Rattle.std.specs.Str.{bytes_eq}
use Rattle.reach_rules.specs.OwnLimits.{LimitList, own_limit}
use Rattle.reach_rules.proofs.Limits.{own_limit-with_limit, with_limit-sorted}
use Rattle.reach_rules.proofs.own_limits.OwnLimits.set.Goals as goal

pub returns-clause-limits : goal.returns-clause-limits
returns-clause-limits c name =
    ap (λ (l : LimitList). own_limit l name) c.in_ok-put.ensures.ok
    ∙ own_limit-with_limit c.self.inside.entries.items c.args.job.now c.args.limit name
    ∙ ap (λ (l : LimitList). cond (bytes_eq name c.args.job.now) c.args.limit (own_limit l name)) c.self.view_is

pub invariant_of-self-2 : goal.invariant_of-self-2
invariant_of-self-2 c = rw c.in_ok-put.ensures.ok (with_limit-sorted c.self.inside.entries.items c.args.job.now c.args.limit c.self.invariant)
