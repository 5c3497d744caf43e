use Rattle.fleet.proofs.EnteredLemmas.{targets_are_entered}
use Rattle.fleet.proofs.laws.targets_are_entered.Goals as goal

pub returns : goal.returns
returns c = targets_are_entered
