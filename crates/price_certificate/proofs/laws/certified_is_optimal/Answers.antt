use Rattle.price_certificate.proofs.Optimal.{optimal}
use Rattle.price_certificate.proofs.laws.certified_is_optimal.Goals as goal

pub returns : goal.returns
returns c = optimal
