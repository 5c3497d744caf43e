use Rattle.std.proofs.Common.{◌≡◌, ◌+◌, ◌≤◌, length}
use Rattle.sealed_lines.specs.Lines.{lines_in, lines_left, size_left}
use Rattle.sealed_lines.specs.Reading.{opened_lines}
use Rattle.sealed_lines.proofs.unsealing.open_lines.Given as goal

abbrev pub invariant-loop-left : goal.invariant-loop-left
invariant-loop-left l =
    record {
      on : opened_lines l.fn.plain.items 1 l.fn.chain (lines_in l.fn.text) ≡ opened_lines l.plain.items l.number l.chain (lines_left l.left);
      short : l.number + size_left l.left ≤ 2 + length l.fn.text;
    }

abbrev pub decreases-loop-left : goal.decreases-loop-left
decreases-loop-left l = size_left l.left
