use Rattle.std.proofs.Common.{ℕ, List, Bool, eqb, get_or, subst, sym, arith}
use Rattle.fleet.specs.Live.{AddsMarks}
use Rattle.fleet.proofs.Marks.{marks_start, marks_step, marks_end, mark_one}
use Rattle.fleet.proofs.live.mark_numbers.Goals as goal

pub loop-number-init : goal.loop-number-init
loop-number-init c = marks_start _ _ _

pub loop-number-preserved : goal.loop-number-preserved
loop-number-preserved c =
    let x : ℕ = get_or c.args.numbers.now c.loop-number.number-index 0 in
    marks_step (λ (other : ℕ) (n : ℕ). eqb other n) c.args.numbers.now c.loop-number.number-index 0 c.args.marks.now c.loop-number.marks c.mark.new.marks c.loop-number-test.true c.loop-number.invariant
    (subst (λ (ms : List Bool). AddsMarks (λ (n : ℕ). eqb x n) c.loop-number.marks ms) (sym c.mark.ensures) (mark_one c.loop-number.marks x))

pub returns : goal.returns
returns c = marks_end _ _ _ _ _ (omega arith) c.loop-number.invariant
