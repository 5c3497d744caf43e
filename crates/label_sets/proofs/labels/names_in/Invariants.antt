use Rattle.std.proofs.Common.{◌≡◌, take}
use Rattle.label_sets.specs.Labels.{names_of}
use Rattle.label_sets.proofs.labels.names_in.Given as goal

abbrev pub invariant-loop-entry : goal.invariant-loop-entry
invariant-loop-entry l = l.names ≡ names_of (take l.entry-index l.entries)
