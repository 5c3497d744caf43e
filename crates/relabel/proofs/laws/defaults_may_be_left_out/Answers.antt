use Rattle.relabel.proofs.DefaultLemmas.{defaults_may_be_left_out}
use Rattle.relabel.proofs.laws.defaults_may_be_left_out.Goals as goal

pub returns : goal.returns
returns c = defaults_may_be_left_out
