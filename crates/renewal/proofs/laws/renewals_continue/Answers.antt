use Rattle.renewal.proofs.Continuing.{renewals}
use Rattle.renewal.proofs.laws.renewals_continue.Goals as goal

pub returns : goal.returns
returns c = renewals
