use Rattle.std.proofs.Common.{◌≡◌, ◌+◌, drop}
use Rattle.relabel.specs.Applying.{relabelled_from}
use Rattle.relabel.proofs.rules.run.Given as goal

abbrev pub invariant-loop-index : goal.invariant-loop-index
invariant-loop-index l = record {
  rules : l.matchers ≡ l.fn.matchers;
  rest : relabelled_from (l.index + 1) (drop l.index l.fn.matchers) l.labels ≡ relabelled_from 1 l.fn.matchers l.fn.labels;
}
