use Rattle.allocation_core.proofs.ListLemmas.{always_disjoint}
use Rattle.allocation_core.proofs.laws.lists_are_disjoint.Goals as goal

pub returns : goal.returns
returns c = always_disjoint
