use Rattle.std.proofs.Common.{◌≡◌, ◌≤◌}
use Rattle.fleet.specs.Live.{count_below, mark_at}
use Rattle.fleet.proofs.live.count_marks.Given as goal

abbrev pub invariant-loop-n : goal.invariant-loop-n
invariant-loop-n l = (l.count ≡ count_below (mark_at l.marks) l.n) × (l.count ≤ l.n)
