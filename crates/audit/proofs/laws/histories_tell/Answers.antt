use Rattle.audit.proofs.Telling.{told}
use Rattle.audit.proofs.laws.histories_tell.Goals as goal

pub returns : goal.returns
returns c = told c.renewed_read_back.ensures
