use Rattle.service_tasks.proofs.Renewals.{opens_renewed}
use Rattle.service_tasks.proofs.renewing.first_line.Goals as goal

pub returns : goal.returns
returns c = opens_renewed c.args.core.now c.renewed.result c.requires c.renewed.ensures.whole
