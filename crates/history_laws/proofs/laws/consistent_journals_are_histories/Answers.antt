use Rattle.history_laws.proofs.OneHistory.{consistent_are_histories}
use Rattle.history_laws.proofs.laws.consistent_journals_are_histories.Goals as goal

pub returns : goal.returns
returns c = consistent_are_histories c.opened_are_good.ensures
