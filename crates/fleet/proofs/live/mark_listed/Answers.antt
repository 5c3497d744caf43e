use Rattle.std.proofs.Common.{ℕ, List, ◌∙◌, arith}
use Rattle.fleet.specs.Live.{is_listed_in}
use Rattle.fleet.proofs.Marks.{marks_start, marks_on, marks_end}
use Rattle.fleet.proofs.live.mark_listed.Goals as goal

pub loop-sources-init : goal.loop-sources-init
loop-sources-init c = marks_start _ _ _

pub loop-sources-preserved : goal.loop-sources-preserved
loop-sources-preserved c =
    marks_on (λ (sources : List (List ℕ)) (n : ℕ). is_listed_in sources n) c.args.listed.now c.loop-sources.sources-index c.sources-item.result c.as_slice.result.now c.args.marks.now c.loop-sources.marks c.mark_sources.new.marks (c.as_slice.ensures ∙ c.sources-item.is) c.loop-sources-test.true c.loop-sources.invariant c.mark_sources.ensures

pub returns : goal.returns
returns c = marks_end _ _ _ _ _ (omega arith) c.loop-sources.invariant
