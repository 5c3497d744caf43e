use Rattle.etcd_laws.proofs.Blocks.{answers_stay}
use Rattle.etcd_laws.proofs.laws.answers_stay.Goals as goal

pub returns : goal.returns
returns c = answers_stay
