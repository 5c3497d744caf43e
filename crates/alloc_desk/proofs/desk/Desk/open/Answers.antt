use Rattle.std.proofs.Common.{◌≡◌, ◌+◌, suc, [], ◌∷◌, ◌++◌, ap, ◌∙◌, arith, rules}
use Rattle.std.proofs.lemmas.Grind.{common_steps}
use Rattle.alloc_desk.specs.Counts.{first_counts}
use Rattle.alloc_desk.proofs.desk.Desk.open.Goals as goal

pub loop-seat-preserved : goal.loop-seat-preserved
loop-seat-preserved g c =
    let next : suc c.loop-seat.seat ≡ c.loop-seat.seat + 1 = omega arith in
    record {
      call_parts = grind (arith, common_steps);
      call_amount = search rules;
      sample_parts = grind (arith, common_steps);
      sample_amount = search rules;
      count = grind (arith, common_steps);
      room = search rules;
      fresh = c.push_reserved.ensures.items ∙ ((λ i. c.loop-seat.invariant.fresh i ++ c.new-pass.ensures i ∷ []) ∙ ap first_counts next);
    }

pub returns-clause-passes : goal.returns-clause-passes
returns-clause-passes g c =
    let all : c.loop-seat.seat ≡ c.args.passes = omega arith in
    c.loop-seat.invariant.fresh ∙ ap first_counts all
