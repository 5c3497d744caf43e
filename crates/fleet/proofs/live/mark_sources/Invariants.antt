use Rattle.std.proofs.Common.{ℕ, List}
use Rattle.fleet.specs.Live.{is_in}
use Rattle.fleet.proofs.Marks.{MarksLeft}
use Rattle.fleet.proofs.live.mark_sources.Given as goal

abbrev pub invariant-loop-numbers : goal.invariant-loop-numbers
invariant-loop-numbers l = MarksLeft (λ (numbers : List ℕ) (n : ℕ). is_in numbers n) l.sources l.numbers-index l.fn.marks l.marks
