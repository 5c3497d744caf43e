use Rattle.served_lists.proofs.Anew.{renewed_tells}
use Rattle.served_lists.proofs.laws.renewed_tells.Goals as goal

pub returns : goal.returns
returns c = renewed_tells
