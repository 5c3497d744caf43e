use Rattle.std.proofs.Common.{◌≡◌, take, not, filter, if◌then◌else◌}
use Rattle.label_sets.specs.Labels.{names_of}
use Rattle.relabel.specs.Patterns.{matches}
use Rattle.relabel.proofs.rule_matcher.RuleMatcher.names_where.Given as goal

abbrev pub invariant-loop-entry : goal.invariant-loop-entry
invariant-loop-entry l = record {
  rule : l.self ≡ l.fn.self;
  found : l.names ≡ filter (λ name. if l.matching then matches l.fn.self.pattern name else not (matches l.fn.self.pattern name)) (names_of (take l.entry-index l.entry-items));
}
