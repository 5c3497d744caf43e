use Rattle.etcd_terms.proofs.Turns.{asks_what_is_posted}
use Rattle.etcd_terms.proofs.laws.asks_what_is_posted.Goals as goal

pub returns : goal.returns
returns c = asks_what_is_posted
