use Rattle.etcd_terms.proofs.Turns.{others_change_nothing}
use Rattle.etcd_terms.proofs.laws.others_change_nothing.Goals as goal

pub returns : goal.returns
returns c = others_change_nothing
