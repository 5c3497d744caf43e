use Rattle.spread_certificate.proofs.Evenest.{levelled_is_evenest}
use Rattle.spread_certificate.proofs.laws.levelled_is_evenest.Goals as goal

pub returns : goal.returns
returns c = levelled_is_evenest
