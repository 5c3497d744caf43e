use Rattle.audit.proofs.Opened.{opened_whole}
use Rattle.audit.proofs.laws.opened_are_whole.Goals as goal

pub returns : goal.returns
returns c = opened_whole
