use Rattle.std.proofs.Common.{◌≡◌}
use Rattle.served_lists.specs.Served.{slot_of, tabulated}
use Rattle.core_history.proofs.restoring.padded.Given as goal

abbrev pub invariant-loop-target : goal.invariant-loop-target
invariant-loop-target l = l.all.items ≡ tabulated (slot_of l.fn.slots) l.target
