use Rattle.allocation_core.proofs.ListLemmas.{always_whole}
use Rattle.allocation_core.proofs.laws.lists_are_whole.Goals as goal

pub returns : goal.returns
returns c = always_whole
