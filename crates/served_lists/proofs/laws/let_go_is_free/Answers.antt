use Rattle.served_lists.proofs.Telling.{let_go_is_free}
use Rattle.served_lists.proofs.laws.let_go_is_free.Goals as goal

pub returns : goal.returns
returns c = let_go_is_free
