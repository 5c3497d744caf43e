use Rattle.etcd_laws.proofs.Blocks.{removals_are_once}
use Rattle.etcd_laws.proofs.laws.removals_are_once.Goals as goal

pub returns : goal.returns
returns c = removals_are_once
