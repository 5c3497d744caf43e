use Rattle.std.proofs.Common.{◌∙◌}
use Rattle.etcd_answers.proofs.LongLemmas.{long_read}
use Rattle.etcd_answers.proofs.numbers.long_of.Goals as goal

pub returns : goal.returns
returns c = c.ok.ensures.value ∙ long_read c.args.text.now c.parse.result c.parse.ensures.value.0
