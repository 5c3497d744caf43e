use Rattle.std.proofs.Common.{◌≡◌}
use Rattle.fleet.specs.Live.{chosen_below, mark_at}
use Rattle.fleet.proofs.live.chosen.Given as goal

abbrev pub invariant-loop-n : goal.invariant-loop-n
invariant-loop-n l = l.numbers.items ≡ chosen_below (mark_at l.marks) l.n
