use Rattle.durable_journal.proofs.EventLines.{says_all}
use Rattle.durable_journal.proofs.FileTexts.{accepts_file, begins_file, grows_file, survives_in_file}
use Rattle.durable_journal.proofs.laws.files_survive.Goals as goal

pub returns-clause-said : goal.returns-clause-said
returns-clause-said c = says_all

pub returns-clause-begins : goal.returns-clause-begins
returns-clause-begins c = begins_file

pub returns-clause-grows : goal.returns-clause-grows
returns-clause-grows c = grows_file

pub returns-clause-survives : goal.returns-clause-survives
returns-clause-survives c = survives_in_file

pub returns-clause-accepts : goal.returns-clause-accepts
returns-clause-accepts c = accepts_file
