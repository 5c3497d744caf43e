use Rattle.json_values.specs.Texts.{json_of}
use Rattle.durable_journal.proofs.FirstLines.{configured_opens, first_begins}
use Rattle.durable_journal.proofs.beginning.FirstLine.configured.Goals as goal

pub returns-clause-opens : goal.returns-clause-opens
returns-clause-opens c = configured_opens c.args.document.now c.line_of_document.result c.line_of_document.ensures

pub returns-clause-begins : goal.returns-clause-begins
returns-clause-begins c = first_begins c.line_of_document.result (json_of c.args.document.now) c.line_of_document.ensures
