use Rattle.allocation_core.proofs.BestLemmas.{always_best}
use Rattle.allocation_core.proofs.laws.published_are_best.Goals as goal

pub returns : goal.returns
returns c = always_best c.plan_laws.ensures
