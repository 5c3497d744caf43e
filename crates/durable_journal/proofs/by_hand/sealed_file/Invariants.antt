use Rattle.sealed_lines.specs.Lines.{lines_left, size_left}
use Rattle.durable_journal.proofs.Noted.{IsSealedUpTo}
use Rattle.durable_journal.proofs.by_hand.sealed_file.Given as goal

abbrev pub invariant-loop-left : goal.invariant-loop-left
invariant-loop-left l = IsSealedUpTo l.first (lines_left l.fn.others) (lines_left l.left) l.bytes.items l.chain

abbrev pub decreases-loop-left : goal.decreases-loop-left
decreases-loop-left l = size_left l.left
