use Rattle.price_certificate.proofs.LeastFault.{price_fault_is_least}
use Rattle.price_certificate.proofs.laws.price_fault_is_least.Goals as goal

pub returns : goal.returns
returns c = price_fault_is_least
