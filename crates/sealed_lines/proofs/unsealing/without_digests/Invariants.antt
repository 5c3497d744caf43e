use Rattle.std.proofs.Common.{◌≡◌, ◌++◌}
use Rattle.sealed_lines.specs.Lines.{lines_in, lines_left, size_left}
use Rattle.sealed_lines.specs.Reading.{unquoted_lines}
use Rattle.sealed_lines.proofs.unsealing.without_digests.Given as goal

abbrev pub invariant-loop-left : goal.invariant-loop-left
invariant-loop-left l = unquoted_lines (lines_in l.fn.text) ≡ l.plain.items ++ unquoted_lines (lines_left l.left)

abbrev pub decreases-loop-left : goal.decreases-loop-left
decreases-loop-left l = size_left l.left
