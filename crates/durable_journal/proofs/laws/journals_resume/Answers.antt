use Rattle.durable_journal.proofs.Crashes.{grows, resumes}
use Rattle.durable_journal.proofs.laws.journals_resume.Goals as goal

pub returns-clause-grows : goal.returns-clause-grows
returns-clause-grows c = grows

pub returns-clause-resumes : goal.returns-clause-resumes
returns-clause-resumes c = resumes
