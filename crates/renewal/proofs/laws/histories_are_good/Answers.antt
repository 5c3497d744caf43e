use Rattle.renewal.proofs.HistoryLemmas.{histories}
use Rattle.renewal.proofs.laws.histories_are_good.Goals as goal

pub returns : goal.returns
returns c = histories c.plan_laws.ensures
