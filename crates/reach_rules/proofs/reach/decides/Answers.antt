use Rattle.std.proofs.Common.{sym, ◌∙◌}
use Rattle.reach_rules.proofs.Firsts.{decided, undecided}
use Rattle.reach_rules.proofs.reach.decides.Goals as goal

pub returns-then-holds : goal.returns-then-holds
returns-then-holds c = decided _ _ _ c.rule-item.result c.rule-item.result.allow c.loop-rule-test.true c.rule-item.is c.loop-rule.invariant (sym c.holds.ensures ∙ c.if-holds.true)

pub returns : goal.returns
returns c = undecided _ _ _ c.loop-rule-test.false c.loop-rule.invariant
