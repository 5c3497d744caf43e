use Rattle.etcd_laws.proofs.Epochs.{epochs_rise}
use Rattle.etcd_laws.proofs.laws.epochs_rise.Goals as goal

pub returns : goal.returns
returns c = epochs_rise
