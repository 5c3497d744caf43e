use Rattle.spread_certificate.proofs.WithinLemmas.{caps_cost_nothing}
use Rattle.spread_certificate.proofs.laws.caps_cost_nothing.Goals as goal

pub returns : goal.returns
returns c = caps_cost_nothing
