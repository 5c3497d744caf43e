use Rattle.served_lists.proofs.Telling.{serving_tells}
use Rattle.served_lists.proofs.laws.serving_tells.Goals as goal

pub returns : goal.returns
returns c = serving_tells
