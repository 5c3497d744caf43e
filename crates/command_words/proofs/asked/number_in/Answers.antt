use Rattle.std.proofs.Common.{◌∙◌}
use Rattle.command_words.proofs.Numbers.{number_read}
use Rattle.command_words.proofs.asked.number_in.Goals as goal

pub returns : goal.returns
returns c = c.unwrap_or.ensures ∙ number_read c.args.text.now c.parse.result c.parse.ensures.value.0
