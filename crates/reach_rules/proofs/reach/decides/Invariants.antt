use Rattle.std.proofs.Common.{◌≡◌, ℕ, ◌<◌, false, get_or}
use Rattle.reach_rules.specs.declared.rule.ReachRule.{ReachRule}
use Rattle.reach_rules.specs.Rules.{holds_on}
use Rattle.reach_rules.proofs.reach.decides.Given as goal

abbrev pub invariant-loop-rule : goal.invariant-loop-rule
invariant-loop-rule l = (k : ℕ) (d : ReachRule) → k < l.rule-index → holds_on (get_or l.rules k d).test l.target ≡ false
