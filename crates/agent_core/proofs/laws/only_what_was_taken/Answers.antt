use Rattle.agent_core.proofs.HeldLemmas.{whole_served}
use Rattle.agent_core.proofs.laws.only_what_was_taken.Goals as goal

pub returns : goal.returns
returns c = whole_served
