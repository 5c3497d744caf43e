use Rattle.std.proofs.Common.{◌∙◌}
use Rattle.agent_documents.proofs.NumberLemmas.{number_read}
use Rattle.agent_documents.proofs.numbers.number_in.Goals as goal

pub returns : goal.returns
returns c = c.ok.ensures.value ∙ number_read c.args.text.now c.parse.result c.parse.ensures.value.0
