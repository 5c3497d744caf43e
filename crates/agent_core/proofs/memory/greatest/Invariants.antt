use Rattle.std.proofs.Common.{◌≡◌, drop}
use Rattle.agent_core.specs.Told.{greatest}
use Rattle.agent_core.proofs.memory.greatest.Given as goal

abbrev pub invariant-loop-mark : goal.invariant-loop-mark
invariant-loop-mark l = greatest (drop l.mark-index l.marks) l.most ≡ greatest l.marks l.time
