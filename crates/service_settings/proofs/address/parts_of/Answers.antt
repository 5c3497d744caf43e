use Rattle.std.proofs.Common.{◌∙◌, Some, None, sym, ap, arith}
use Rattle.std.proofs.lemmas.Str.Pattern.{split_once_first}
use Rattle.service_settings.proofs.Behind.{behind_first, behind_none}
use Rattle.service_settings.proofs.address.parts_of.Goals as goal

pub returns-in-Some-clause-port : goal.returns-in-Some-clause-port
returns-in-Some-clause-port c =
    let parts = split_once_first 58 c.args.text.now (Some (c.in-Some.host, c.in-Some.port)) c.in-Some.ensures.cases (omega arith) in
    ap Some parts.2 ∙ sym (behind_first 58 _ parts.0)

pub returns-in-None-clause-port : goal.returns-in-None-clause-port
returns-in-None-clause-port c = sym (behind_none 58 _ (split_once_first 58 c.args.text.now None c.in-None.ensures.cases (omega arith)))
