use Rattle.etcd_laws.proofs.Epochs.{over_is_over}
use Rattle.etcd_laws.proofs.laws.over_is_over.Goals as goal

pub returns : goal.returns
returns c = over_is_over
