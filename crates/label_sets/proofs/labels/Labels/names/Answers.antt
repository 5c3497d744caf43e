use Rattle.label_sets.proofs.Places.{names_of-ascends}
use Rattle.label_sets.proofs.labels.Labels.names.Goals as goal

pub returns-clause-ascending : goal.returns-clause-ascending
returns-clause-ascending c = rw (← c.self.view_is) (names_of-ascends _ c.self.invariant.ordered)
