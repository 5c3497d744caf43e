use Rattle.std.proofs.Common.{◌≡◌, drop}
use Rattle.relabel.specs.Discovering.{with_groups, nothing_found}
use Rattle.relabel.proofs.rules.Rules.discover.Given as goal

abbrev pub invariant-loop-group : goal.invariant-loop-group
invariant-loop-group l = record {
  rules : l.matchers.items ≡ l.self;
  rest : with_groups l.self l.job l.source (drop l.group-index l.groups) l.found ≡ with_groups l.self l.job l.source l.groups nothing_found;
}
