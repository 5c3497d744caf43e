use Rattle.etcd_terms.proofs.Turns.{over_is_silent}
use Rattle.etcd_terms.proofs.laws.over_is_silent.Goals as goal

pub returns : goal.returns
returns c = over_is_silent
