use Rattle.durable_journal.proofs.EventLines.{kept_parts}
use Rattle.durable_journal.proofs.Refused.{leave_out_refused}
use Rattle.durable_journal.proofs.laws.refused_are_left_out.Goals as goal

pub returns-clause-same : goal.returns-clause-same
returns-clause-same c = leave_out_refused

pub returns-clause-parts : goal.returns-clause-parts
returns-clause-parts c = kept_parts
