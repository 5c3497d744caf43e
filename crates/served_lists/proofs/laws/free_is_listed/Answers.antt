use Rattle.served_lists.proofs.Telling.{free_is_listed}
use Rattle.served_lists.proofs.laws.free_is_listed.Goals as goal

pub returns : goal.returns
returns c = free_is_listed
