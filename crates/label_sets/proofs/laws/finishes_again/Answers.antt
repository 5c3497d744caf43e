use Rattle.label_sets.proofs.Finals.{finishes_again}
use Rattle.label_sets.proofs.laws.finishes_again.Goals as goal

pub returns : goal.returns
returns c = finishes_again
