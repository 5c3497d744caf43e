use Rattle.core_history.proofs.RenewedWhole.{read_back}
use Rattle.core_history.proofs.laws.renewed_read_back.Goals as goal

pub returns : goal.returns
returns c = read_back
