use Rattle.allocation_core.proofs.BookedLemmas.{always_booked}
use Rattle.allocation_core.proofs.laws.booked_by_holders.Goals as goal

pub returns : goal.returns
returns c = always_booked
