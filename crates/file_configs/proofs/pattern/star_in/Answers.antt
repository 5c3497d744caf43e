use Rattle.std.proofs.Common.{◌∙◌, Some, None, sym, ap, arith}
use Rattle.std.proofs.lemmas.Str.Pattern.{split_once_first}
use Rattle.file_configs.proofs.Behind.{behind_first, behind_none}
use Rattle.file_configs.proofs.pattern.star_in.Goals as goal

pub returns-in-Some-clause-tail : goal.returns-in-Some-clause-tail
returns-in-Some-clause-tail c =
    let parts = split_once_first 42 c.args.text.now (Some (c.in-Some.head, c.in-Some.tail)) c.in-Some.ensures.cases (omega arith) in
    ap Some parts.2 ∙ sym (behind_first 42 _ parts.0)

pub returns-in-None-clause-tail : goal.returns-in-None-clause-tail
returns-in-None-clause-tail c = sym (behind_none 42 _ (split_once_first 42 c.args.text.now None c.in-None.ensures.cases (omega arith)))
