use Rattle.spread_certificate.proofs.WithinLemmas.{best_is_bare}
use Rattle.spread_certificate.proofs.laws.best_is_bare.Goals as goal

pub returns : goal.returns
returns c = best_is_bare
