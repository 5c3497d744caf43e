use Rattle.allocation_core.proofs.BestLemmas.{always_most, published_cover_most}
use Rattle.allocation_core.proofs.laws.published_cover_most.Goals as goal

pub returns-clause-each : goal.returns-clause-each
returns-clause-each c = published_cover_most c.best_cover_most.ensures

pub returns-clause-always : goal.returns-clause-always
returns-clause-always c = always_most c.published_are_best.ensures c.best_cover_most.ensures
