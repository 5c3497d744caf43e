use Rattle.agent_core.proofs.HeldLemmas.{whole_held}
use Rattle.agent_core.proofs.laws.only_what_was_held.Goals as goal

pub returns : goal.returns
returns c = whole_held
