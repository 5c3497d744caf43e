use Rattle.std.proofs.Common.{◌≤◌, length, drop}
use Rattle.sealed_lines.specs.Lines.{HasNoFeed}
use Rattle.durable_journal.proofs.recovering.settled.Given as goal

abbrev pub invariant-loop-end : goal.invariant-loop-end
invariant-loop-end l = (l.end ≤ length l.bytes) × HasNoFeed (drop l.end l.bytes)

abbrev pub decreases-loop-end : goal.decreases-loop-end
decreases-loop-end l = l.end
