use Rattle.std.proofs.Common.{◌≡◌, drop}
use Rattle.relabel.specs.Effect.{with_copies}
use Rattle.relabel.proofs.actions.mapping.set_copies.Given as goal

abbrev pub invariant-loop-copy : goal.invariant-loop-copy
invariant-loop-copy l = with_copies l.labels (drop l.copy-index l.copies) ≡ with_copies l.fn.labels l.copies
