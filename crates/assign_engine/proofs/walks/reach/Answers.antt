use Rattle.std.proofs.Common.{arith}
use Rattle.price_certificate.proofs.InstanceRows.{allowed_bin}
use Rattle.assign_engine.proofs.Relaxing.{allowed_in}
use Rattle.assign_engine.proofs.walks.reach.Goals as goal

pub rank_as-requires : goal.rank_as-requires
rank_as-requires c =
    let p = c.args.instance.now in
    let a = allowed_in p c.args.item c.loop-bin.bin-index c.row-bin-items.result.now c.row-bin-items.ensures c.loop-bin-test.true in
    let l = allowed_bin p c.is_problem.ensures c.args.item _ a in
    omega (arith, l, c.loop-bin.invariant.bins.ranks)
