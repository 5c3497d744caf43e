use Rattle.std.proofs.Common.{arith}
use Rattle.fleet_assignment.proofs.Shapes.{all_marked}
use Rattle.fleet_assignment.proofs.instance.draining.Goals as goal

pub returns : goal.returns
returns c = all_marked c.args.jobs c.args.collectors.now c.loop-bin.bin c.loop-bin.draining.items (omega arith) c.loop-bin.invariant
