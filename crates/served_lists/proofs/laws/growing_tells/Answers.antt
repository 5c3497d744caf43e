use Rattle.served_lists.proofs.Telling.{growing_tells}
use Rattle.served_lists.proofs.laws.growing_tells.Goals as goal

pub returns : goal.returns
returns c = growing_tells
