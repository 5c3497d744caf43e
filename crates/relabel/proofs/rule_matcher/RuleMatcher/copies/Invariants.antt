use Rattle.std.proofs.Common.{◌≡◌, take}
use Rattle.std.specs.List.{filter_map}
use Rattle.label_sets.specs.Labels.{names_of}
use Rattle.relabel.specs.Effect.{copy_of}
use Rattle.relabel.proofs.rule_matcher.RuleMatcher.copies.Given as goal

abbrev pub invariant-loop-entry : goal.invariant-loop-entry
invariant-loop-entry l = record {
  rule : l.self ≡ l.fn.self;
  found : l.copies ≡ filter_map (copy_of l.fn.self l.labels) (names_of (take l.entry-index l.entry-items));
}
