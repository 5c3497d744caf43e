use Rattle.std.proofs.Common.{ℕ, List}
use Rattle.fleet.specs.Live.{is_listed_in}
use Rattle.fleet.proofs.Marks.{MarksLeft}
use Rattle.fleet.proofs.live.mark_listed.Given as goal

abbrev pub invariant-loop-sources : goal.invariant-loop-sources
invariant-loop-sources l = MarksLeft (λ (sources : List (List ℕ)) (n : ℕ). is_listed_in sources n) l.listed l.sources-index l.fn.marks l.marks
