use Rattle.std.proofs.Common.{ℕ, refl, arith}
use Rattle.std.specs.Prelude.{◌==◌, ◌&&◌}
use Rattle.fleet.specs.Fleet.{is_joined}
use Rattle.audit.proofs.Tallying.{taken_end, taken_on, taken_start}
use Rattle.audit.proofs.uncovered.unmark_held.Goals as goal

pub loop-pair-init : goal.loop-pair-init
loop-pair-init c = taken_start _ _ _

pub loop-pair-preserved : goal.loop-pair-preserved
loop-pair-preserved c =
    taken_on (λ (q : ℕ × ℕ) (n : ℕ). (q.0 == n) && is_joined c.args.fleet.now q.1) c.args.pairs.now c.loop-pair.pair-index _ (0, 0) c.args.marks.now c.loop-pair.marks c.unmark_pair.new.marks refl c.loop-pair-test.true c.loop-pair.invariant c.unmark_pair.ensures

pub returns : goal.returns
returns c = taken_end _ _ _ _ _ (omega arith) c.loop-pair.invariant
