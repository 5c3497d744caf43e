use Rattle.etcd_laws.proofs.Scripts.{each_is_done_once}
use Rattle.etcd_laws.proofs.laws.each_is_done_once.Goals as goal

pub returns : goal.returns
returns c = each_is_done_once
