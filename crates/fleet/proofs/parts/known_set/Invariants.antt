use Rattle.std.proofs.Common.{◌≡◌, ◌++◌, []}
use Rattle.fleet.specs.KnownTarget.{same_known}
use Rattle.fleet.specs.Parts.{none_clash}
use Rattle.fleet.proofs.parts.known_set.Given as goal

abbrev pub invariant-loop-target : goal.invariant-loop-target
invariant-loop-target l = record {
  all : l.known.keys ++ l.target-iterator.rest.items ≡ l.fn.targets.items;
  apart : none_clash same_known l.known.keys l.target-iterator.rest.items ≡ none_clash same_known [] l.fn.targets.items;
}
