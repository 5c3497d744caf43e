use Rattle.allocation_core.proofs.AnswerLemmas.{answers_fit}
use Rattle.allocation_core.proofs.laws.answers_fit.Goals as goal

pub returns : goal.returns
returns c = answers_fit
