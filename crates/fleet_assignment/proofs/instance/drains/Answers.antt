use Rattle.fleet_assignment.proofs.WithinLemmas.{drains_here}
use Rattle.fleet_assignment.proofs.instance.drains.Goals as goal

pub returns : goal.returns
returns c = drains_here c.args.jobs c.args.collectors.now c.args.bin c.index-collectors-bin.result c.requires
