use Rattle.etcd_terms.proofs.Turns.{unknown_asks_again}
use Rattle.etcd_terms.proofs.laws.unknown_asks_again.Goals as goal

pub returns : goal.returns
returns c = unknown_asks_again
