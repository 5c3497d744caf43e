use Rattle.spread_certificate.proofs.JudgeLemmas.{no_best_fault_is_certified}
use Rattle.spread_certificate.proofs.laws.no_best_fault_is_certified.Goals as goal

pub returns : goal.returns
returns c = no_best_fault_is_certified
