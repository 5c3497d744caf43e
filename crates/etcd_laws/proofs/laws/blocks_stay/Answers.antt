use Rattle.etcd_laws.proofs.Blocks.{blocks_stay}
use Rattle.etcd_laws.proofs.laws.blocks_stay.Goals as goal

pub returns : goal.returns
returns c = blocks_stay
