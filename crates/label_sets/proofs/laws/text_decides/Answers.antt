use Rattle.label_sets.proofs.Identity.{text_decides, text_decides_answers}
use Rattle.label_sets.proofs.laws.text_decides.Goals as goal

pub returns-clause-target : goal.returns-clause-target
returns-clause-target c = text_decides

pub returns-clause-answers : goal.returns-clause-answers
returns-clause-answers c = text_decides_answers
