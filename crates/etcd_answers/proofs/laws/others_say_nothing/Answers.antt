use Rattle.etcd_answers.proofs.VerdictLemmas.{others_say_nothing}
use Rattle.etcd_answers.proofs.laws.others_say_nothing.Goals as goal

pub returns : goal.returns
returns c = others_say_nothing
