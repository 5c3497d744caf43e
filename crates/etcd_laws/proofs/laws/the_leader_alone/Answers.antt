use Rattle.etcd_laws.proofs.Leading.{the_leader_alone}
use Rattle.etcd_laws.proofs.laws.the_leader_alone.Goals as goal

pub returns : goal.returns
returns c = the_leader_alone
