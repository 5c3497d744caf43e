use Rattle.spread_certificate.proofs.WithinLemmas.{both_are_best_within}
use Rattle.spread_certificate.proofs.laws.both_are_best_within.Goals as goal

pub returns : goal.returns
returns c = both_are_best_within
