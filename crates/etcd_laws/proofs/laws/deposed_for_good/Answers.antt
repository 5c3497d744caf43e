use Rattle.etcd_laws.proofs.Leading.{deposed_for_good}
use Rattle.etcd_laws.proofs.laws.deposed_for_good.Goals as goal

pub returns : goal.returns
returns c = deposed_for_good
