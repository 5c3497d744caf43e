use Rattle.std.proofs.Common.{ℕ, List, ◌∙◌, arith}
use Rattle.fleet.specs.Live.{is_in}
use Rattle.fleet.proofs.Marks.{marks_start, marks_on, marks_end}
use Rattle.fleet.proofs.live.mark_sources.Goals as goal

pub loop-numbers-init : goal.loop-numbers-init
loop-numbers-init c = marks_start _ _ _

pub loop-numbers-preserved : goal.loop-numbers-preserved
loop-numbers-preserved c =
    marks_on (λ (numbers : List ℕ) (n : ℕ). is_in numbers n) c.args.sources.now c.loop-numbers.numbers-index c.numbers-item.result c.as_slice.result.now c.args.marks.now c.loop-numbers.marks c.mark_numbers.new.marks (c.as_slice.ensures ∙ c.numbers-item.is) c.loop-numbers-test.true c.loop-numbers.invariant c.mark_numbers.ensures

pub returns : goal.returns
returns c = marks_end _ _ _ _ _ (omega arith) c.loop-numbers.invariant
