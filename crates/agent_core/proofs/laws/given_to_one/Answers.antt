use Rattle.agent_core.proofs.RunLemmas.{whole_given}
use Rattle.agent_core.proofs.laws.given_to_one.Goals as goal

pub returns : goal.returns
returns c = whole_given
