use Rattle.served_lists.proofs.Telling.{left_out_for_another}
use Rattle.served_lists.proofs.laws.left_out_for_another.Goals as goal

pub returns : goal.returns
returns c = left_out_for_another
