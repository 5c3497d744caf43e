use Rattle.etcd_answers.proofs.VerdictLemmas.{never_both}
use Rattle.etcd_answers.proofs.laws.never_both.Goals as goal

pub returns : goal.returns
returns c = never_both
