use Rattle.std.proofs.Common.{◌∙◌, Some, ap}
use Rattle.etcd_answers.proofs.Base64Lemmas.{said_none, said_some}
use Rattle.etcd_answers.proofs.found.decoded.Goals as goal

pub returns-in-Ok : goal.returns-in-Ok
returns-in-Ok c = ap Some c.from_vec.ensures ∙ said_some c.args.text.now c.as_bytes.result.now c.in-Ok.bytes.items c.as_bytes.ensures.value c.in-Ok.ensures.ok

pub returns-in-Err-DecodeError : goal.returns-in-Err-DecodeError
returns-in-Err-DecodeError c =
    let failed = rw c.in-Err-DecodeError.field-0-is at c.in-Err-DecodeError.ensures.err in
    said_none c.args.text.now c.as_bytes.result.now c.in-Err-DecodeError.field-0-0 c.as_bytes.ensures.value failed
