use Rattle.http_get.proofs.Naming.{names_are_all}
use Rattle.http_get.proofs.laws.names_law.Goals as goal

pub returns : goal.returns
returns c = names_are_all
