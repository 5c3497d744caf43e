use Rattle.price_certificate.proofs.Optimal.{worth_parts}
use Rattle.price_certificate.proofs.laws.worth_is_by_level.Goals as goal

pub returns : goal.returns
returns c = worth_parts
