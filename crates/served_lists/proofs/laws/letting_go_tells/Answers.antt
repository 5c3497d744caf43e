use Rattle.served_lists.proofs.Telling.{letting_go_tells}
use Rattle.served_lists.proofs.laws.letting_go_tells.Goals as goal

pub returns : goal.returns
returns c = letting_go_tells
