use Rattle.std.proofs.Common.{◌+◌, ◌≤◌}
use Rattle.replay_lines.specs.Lines.{lines_left, size_left, IsAhead}
use Rattle.replay_lines.specs.Replays.{written_from}
use Rattle.replay_lines.proofs.run.answer_lines.Given as goal

abbrev pub invariant-loop-left : goal.invariant-loop-left
invariant-loop-left l =
    record {
      ahead : IsAhead (written_from 2 l.fn.core (lines_left l.fn.lines)) (written_from l.number l.core (lines_left l.left)) l.fn.text.items l.text.items;
      counted : l.number + size_left l.left ≤ 2 + size_left l.fn.lines;
    }

abbrev pub decreases-loop-left : goal.decreases-loop-left
decreases-loop-left l = size_left l.left
