use Rattle.std.proofs.Common.{arith}
use Rattle.spread_certificate.proofs.Finding.{low_as, fair_as}
use Rattle.spread_certificate.proofs.levels.find_low_pair.Goals as goal

pub returns-then-value-from : goal.returns-then-value-from
returns-then-value-from c = low_as c.args.instance.now c.args.even.now c.args.item c.loop-place.place c.row-row.result.now c.row-row.ensures c.loop-place-test.true c.loop-place.invariant (omega (arith, c.level_worth.ensures c.args.item, c.if-value-from.true, c.number_at.ensures, c.number_at-in-loop-place.ensures))

pub loop-place-preserved : goal.loop-place-preserved
loop-place-preserved c = fair_as c.args.instance.now c.args.even.now c.args.item c.loop-place.place c.row-row.result.now c.row-row.ensures c.loop-place.invariant (omega (arith, c.level_worth.ensures c.args.item, c.if-value-from.false, c.number_at.ensures, c.number_at-in-loop-place.ensures))
