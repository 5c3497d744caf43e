use Rattle.durable_journal.proofs.Accepted.{accepts_first}
use Rattle.durable_journal.proofs.Crashes.{accepts, ignores_torn, survives}
use Rattle.durable_journal.proofs.laws.journals_survive.Goals as goal

pub returns-clause-torn : goal.returns-clause-torn
returns-clause-torn c = ignores_torn

pub returns-clause-survives : goal.returns-clause-survives
returns-clause-survives c = survives

pub returns-clause-accepts : goal.returns-clause-accepts
returns-clause-accepts c = accepts

pub returns-clause-accepts_first : goal.returns-clause-accepts_first
returns-clause-accepts_first c = accepts_first
