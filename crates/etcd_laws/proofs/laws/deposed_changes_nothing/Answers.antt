use Rattle.etcd_laws.proofs.Leading.{deposed_changes_nothing}
use Rattle.etcd_laws.proofs.laws.deposed_changes_nothing.Goals as goal

pub returns : goal.returns
returns c = deposed_changes_nothing
