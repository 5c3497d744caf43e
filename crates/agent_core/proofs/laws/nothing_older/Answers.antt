use Rattle.agent_core.proofs.RunLemmas.{whole_run}
use Rattle.agent_core.proofs.laws.nothing_older.Goals as goal

pub returns : goal.returns
returns c s inputs = (whole_run s inputs).1.news
