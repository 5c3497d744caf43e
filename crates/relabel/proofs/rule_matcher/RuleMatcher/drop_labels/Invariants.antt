use Rattle.std.proofs.Common.{◌≡◌, drop}
use Rattle.relabel.proofs.Sweeping.{taken_out}
use Rattle.relabel.proofs.rule_matcher.RuleMatcher.drop_labels.Given as goal

abbrev pub invariant-loop-name : goal.invariant-loop-name
invariant-loop-name l = taken_out (drop l.name-index l.name-items) l.labels ≡ taken_out l.name-items l.fn.labels
