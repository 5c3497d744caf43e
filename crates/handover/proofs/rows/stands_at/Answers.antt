use Rattle.std.proofs.Common.{arith}
use Rattle.handover.proofs.PairLemmas.{is_beside-same, is_beside-other, is_beside-end}
use Rattle.handover.proofs.rows.stands_at.Goals as goal

pub returns-then-place-pairs : goal.returns-then-place-pairs
returns-then-place-pairs c = is_beside-end c.args.pairs.now c.args.place c.args.pair.0 c.args.pair.1 (omega arith) c.requires.passed

pub returns-then-pairs-place : goal.returns-then-pairs-place
returns-then-pairs-place c = is_beside-same c.args.pairs.now c.args.place c.args.pair.0 c.args.pair.1 c.requires.ascending (omega arith) c.requires.passed c.if-pairs-place.true

pub returns-else-pairs-place : goal.returns-else-pairs-place
returns-else-pairs-place c =
    is_beside-other c.args.pairs.now c.args.place c.args.pair.0 c.args.pair.1 c.requires.ascending (omega arith) c.requires.passed (c.requires.reached (omega arith)) c.if-pairs-place.false
