use Rattle.served_lists.proofs.Telling.{served_anew_is_free}
use Rattle.served_lists.proofs.laws.served_anew_is_free.Goals as goal

pub returns : goal.returns
returns c = served_anew_is_free
