use Rattle.std.proofs.Common.{◌∙◌}
use Rattle.relabel.specs.Patterns.{matches}
use Rattle.relabel.proofs.Sweeping.{kept_end}
use Rattle.relabel.proofs.rule_matcher.RuleMatcher.keep_labels.Goals as goal

pub returns-clause-value : goal.returns-clause-value
returns-clause-value c =
    kept_end (matches c.args.self.now.pattern) _ _ _ _ c.loop-name-test.false (c.as_slice-name-items.ensures ∙ c.in_ok-names.ensures.value) c.loop-name.invariant
