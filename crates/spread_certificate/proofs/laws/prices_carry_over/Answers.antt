use Rattle.spread_certificate.proofs.WithinLemmas.{prices_carry_over}
use Rattle.spread_certificate.proofs.laws.prices_carry_over.Goals as goal

pub returns : goal.returns
returns c = prices_carry_over
