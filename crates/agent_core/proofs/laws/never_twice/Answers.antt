use Rattle.agent_core.proofs.RunLemmas.{whole_run}
use Rattle.agent_core.proofs.laws.never_twice.Goals as goal

pub returns : goal.returns
returns c s inputs = (whole_run s inputs).1.apart
