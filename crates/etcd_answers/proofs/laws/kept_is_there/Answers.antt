use Rattle.etcd_answers.proofs.VerdictLemmas.{kept_is_there}
use Rattle.etcd_answers.proofs.laws.kept_is_there.Goals as goal

pub returns : goal.returns
returns c = kept_is_there
