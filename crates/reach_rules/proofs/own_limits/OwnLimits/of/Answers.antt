use Rattle.std.proofs.Common.{ap, sym, ◌∙◌}
use Rattle.std.proofs.lemmas.List.{at_drop_all}
use Rattle.reach_rules.specs.OwnLimits.{LimitList, own_limit}
use Rattle.reach_rules.proofs.Limits.{set_all, last_holds}
use Rattle.reach_rules.proofs.own_limits.OwnLimits.of.Goals as goal

pub returns-clause-last : goal.returns-clause-last
returns-clause-last c job =
    ap (λ (l : LimitList). own_limit l job) (sym (at_drop_all (set_all c.loop-entry.limits) c.args.entries.now c.loop-entry.entry-index c.loop-entry-test.false) ∙ c.loop-entry.invariant)
    ∙ last_holds c.args.entries.now job
