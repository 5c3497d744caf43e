use Rattle.std.proofs.Common.{ap, arith}
use Rattle.reach_rules.specs.declared.row.Row.{Row}
use Rattle.reach_rules.proofs.TableLemmas.{spare_at}
use Rattle.reach_rules.proofs.table.answer_in.Goals as goal

pub answer-requires : goal.answer-requires
answer-requires g c =
    let rest = c.loop-place.invariant.rest c.loop-place.place c.index-rows-place.result (omega arith) in
    omega (arith, c.requires, ap (λ (row : Row). row.reached.spare) rest, spare_at c.args.rows.now c.loop-place.place c.index-rows-place.result c.loop-place-test.true)
