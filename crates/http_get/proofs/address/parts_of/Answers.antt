use Rattle.std.proofs.Common.{◌∙◌, Some, None, sym, ap, arith}
use Rattle.std.proofs.lemmas.Str.Pattern.{split_once_first}
use Rattle.http_get.proofs.Colons.{behind_first, behind_none}
use Rattle.http_get.proofs.address.parts_of.Goals as goal

pub returns-in-Some-clause-digits : goal.returns-in-Some-clause-digits
returns-in-Some-clause-digits c =
    let parts = split_once_first 58 c.args.text.now (Some (c.in-Some.host, c.in-Some.digits)) c.in-Some.ensures.cases (omega arith) in
    ap Some parts.2 ∙ sym (behind_first _ parts.0)

pub returns-in-None-clause-digits : goal.returns-in-None-clause-digits
returns-in-None-clause-digits c = sym (behind_none _ (split_once_first 58 c.args.text.now None c.in-None.ensures.cases (omega arith)))
