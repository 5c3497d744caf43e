use Rattle.std.proofs.Common.{ℕ}
use Rattle.std.specs.Prelude.{◌==◌}
use Rattle.fleet.proofs.Marks.{MarksLeft}
use Rattle.fleet.proofs.live.mark_numbers.Given as goal

abbrev pub invariant-loop-number : goal.invariant-loop-number
invariant-loop-number l = MarksLeft (λ (other : ℕ) (n : ℕ). other == n) l.numbers l.number-index l.fn.marks l.marks
