use Rattle.std.proofs.Common.{◌≡◌, ◌+◌, ◌≤◌}
use Rattle.replay_lines.specs.Lines.{lines_left, size_left}
use Rattle.replay_lines.specs.Resumes.{resumed_from}
use Rattle.replay_lines.proofs.Resumptions.{resumed_on}
use Rattle.replay_lines.proofs.resuming.apply_lines.Given as goal

abbrev pub invariant-loop-left : goal.invariant-loop-left
invariant-loop-left l =
    record {
      on : resumed_from l.fn.core (lines_left l.fn.lines) ≡ resumed_on l.number l.events l.core (lines_left l.left);
      short : l.number + size_left l.left ≤ 2 + size_left l.fn.lines;
      fewer : l.events ≤ l.number;
    }

abbrev pub decreases-loop-left : goal.decreases-loop-left
decreases-loop-left l = size_left l.left
