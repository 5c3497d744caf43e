use Rattle.service_settings.proofs.Spelled.{spelled}
use Rattle.service_settings.proofs.duration.duration_of.Goals as goal

pub returns-clause-spelled : goal.returns-clause-spelled
returns-clause-spelled c = λ n. rw c.read.ensures (spelled c.args.text.now n)
