use Rattle.price_certificate.proofs.Verdicts.{certified_none, fault_none}
use Rattle.price_certificate.proofs.laws.no_fault_is_certified.Goals as goal

pub returns : goal.returns
returns c = λ p pairs us vs valid. (fault_none p pairs us vs valid, certified_none p pairs us vs valid)
