use Rattle.etcd_laws.proofs.Meaning.{requests_are_transactions}
use Rattle.etcd_laws.proofs.laws.requests_are_transactions.Goals as goal

pub returns : goal.returns
returns c = requests_are_transactions
