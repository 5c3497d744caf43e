use Rattle.std.proofs.Common.{arith, sym}
use Rattle.assign_engine.proofs.Nearest.{all_far, is_nearest, pending_but, pending_on}
use Rattle.assign_engine.proofs.search_tables.nearest.Goals as goal
use Rattle.assign_engine.proofs.search_tables.nearest.Goals.{else-bin-len-via-then-bin-len+then-rank-len+else-found-distance, else-bin-len-via-then-bin-len+else-rank-len, else-bin-len-via-else-bin-len}

pub returns-then-distance-cost-clause-none : goal.returns-then-distance-cost-clause-none
returns-then-distance-cost-clause-none c =
    all_far c.args.distances.now c.args.ranks.now c.args.cost c.loop-distance.frontier c.pop.new.self c.loop-distance.invariant _ c.in-Some.ensures.least c.in-Some.ensures.rest (omega (arith, c.in-Some.distance-is))

pub returns-then-found-distance-clause-some : goal.returns-then-found-distance-clause-some
returns-then-found-distance-clause-some c =
    is_nearest c.args.distances.now c.args.ranks.now c.args.cost c.loop-distance.frontier c.pop.new.self c.loop-distance.invariant _ c.in-Some.ensures.least c.in-Some.ensures.rest c.in-Some.bin (sym c.in-Some.bin-is) (omega (arith, c.in-Some.distance-is)) (omega arith) (omega arith) (omega (arith, c.in-Some.distance-is))

pub returns-then-found-distance-clause-pending : goal.returns-then-found-distance-clause-pending
returns-then-found-distance-clause-pending c =
    pending_but c.args.distances.now c.args.ranks.now c.args.cost c.loop-distance.frontier c.pop.new.self c.loop-distance.invariant _ c.in-Some.ensures.least c.in-Some.ensures.rest c.in-Some.bin (sym c.in-Some.bin-is)

pub loop-distance-preserved : goal.loop-distance-preserved
loop-distance-preserved c =
    pending_on c.args.distances.now c.args.ranks.now c.args.cost c.loop-distance.frontier c.pop.new.self c.loop-distance.invariant _ c.in-Some.ensures.least c.in-Some.ensures.rest c.in-Some.bin (sym c.in-Some.bin-is)
    (λ l w e. elim c.else-bin-len.branch [
      | else-bin-len-via-then-bin-len+then-rank-len+else-found-distance k ↦ absurd (omega (arith, k.if-found-distance.false, e, c.in-Some.distance-is))
      | else-bin-len-via-then-bin-len+else-rank-len k ↦ absurd (omega (arith, k.if-rank-len.false, w))
      | else-bin-len-via-else-bin-len k ↦ absurd (omega (arith, k.if-bin-len.false))
    ])
