use Rattle.etcd_terms.proofs.Standing.{asks_a_script}
use Rattle.etcd_terms.proofs.laws.asks_a_script.Goals as goal

pub returns : goal.returns
returns c = asks_a_script
