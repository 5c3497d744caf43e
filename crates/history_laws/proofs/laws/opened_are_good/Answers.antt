use Rattle.history_laws.proofs.Promised.{opened_are_good}
use Rattle.history_laws.proofs.laws.opened_are_good.Goals as goal

pub returns : goal.returns
returns c = opened_are_good c.plan_laws.ensures c.published_cover_most.ensures.each
