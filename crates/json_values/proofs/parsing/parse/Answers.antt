use Rattle.std.proofs.Common.{sym}
use Rattle.serde_json.specs.View.{view}
use Rattle.json_values.proofs.Texts.{json_of-text, json_of-none}
use Rattle.json_values.proofs.parsing.parse.Goals as goal

pub returns-in-Ok : goal.returns-in-Ok
returns-in-Ok c = sym (json_of-text c.args.bytes.now (view c.in-Ok.value) c.in-Ok.ensures.ok.0 c.in-Ok.ensures.ok.1)

pub returns-in-Err-2 : goal.returns-in-Err-2
returns-in-Err-2 c = sym (json_of-none c.args.bytes.now (c.in-Err.ensures.err (λ m. let yes = c.is_memory.ensures.1 m in let other = c.if-is_memory.false in cc)))
