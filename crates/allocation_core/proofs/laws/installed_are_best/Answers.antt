use Rattle.allocation_core.proofs.BestLemmas.{installed_are_best}
use Rattle.allocation_core.proofs.laws.installed_are_best.Goals as goal

pub returns : goal.returns
returns c = installed_are_best c.published_are_best.ensures
