use Rattle.allocation_core.proofs.BookedLemmas.{it_stays, with_one}
use Rattle.allocation_core.proofs.laws.with_one_all_is_as_before.Goals as goal

pub returns-clause-first : goal.returns-clause-first
returns-clause-first c = with_one

pub returns-clause-stays : goal.returns-clause-stays
returns-clause-stays c = it_stays
