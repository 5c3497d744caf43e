use Rattle.durable_journal.proofs.Histories.{put_form}
use Rattle.durable_journal.proofs.renewing.with_history.Goals as goal

pub returns-in-Ok-clause-form : goal.returns-in-Ok-clause-form
returns-in-Ok-clause-form c = put_form c.args.value c.in-Object.members c.put_history.new.members c.args.core.now c.in-Object.is c.in-Ok.ensures.form
