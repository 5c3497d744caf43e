use Rattle.std.proofs.Common.{◌≡◌, take}
use Rattle.relabel.proofs.rules.Rules.matchers.Given as goal

abbrev pub invariant-loop-rule : goal.invariant-loop-rule
invariant-loop-rule l = l.matchers.items ≡ take l.rule-index l.rule-items
