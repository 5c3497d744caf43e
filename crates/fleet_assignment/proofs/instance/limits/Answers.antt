use Rattle.std.proofs.Common.{sym}
use Rattle.fleet_assignment.proofs.Shapes.{limits_more}
use Rattle.fleet_assignment.proofs.instance.limits.Goals as goal

pub loop-collector-preserved : goal.loop-collector-preserved
loop-collector-preserved c =
    limits_more c.args.jobs.now c.args.collectors.now c.loop-collector.collector-index c.collector-item.result c.loop-collector.limits.items c.push_limits.new.limits.items c.loop-collector-test.true (sym c.collector-item.is) c.loop-collector.invariant c.in_ok-push_limits.ensures
