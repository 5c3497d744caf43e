use Rattle.std.proofs.Common.{◌≡◌, drop}
use Rattle.relabel.specs.Discovering.{with_targets}
use Rattle.relabel.proofs.discovery.add_group.Given as goal

abbrev pub invariant-loop-target : goal.invariant-loop-target
invariant-loop-target l = record {
  rules : l.matchers ≡ l.fn.matchers;
  rest : with_targets l.fn.matchers l.job l.source l.group (drop l.target-index l.target-items) l.found ≡ with_targets l.fn.matchers l.job l.source l.group l.target-items l.fn.found;
}
