use Rattle.std.proofs.Common.{refl}
use Rattle.relabel.proofs.Forms.{form_of, no_pattern, some_pattern}
use Rattle.relabel.proofs.pattern.regex_of.Goals as goal

pub returns-in-Ok-clause-read : goal.returns-in-Ok-clause-read
returns-in-Ok-clause-read c = form_of c.in-Ok.regex c.args.source.now c.in-Ok.ensures.source c.in-Ok.ensures.config c.in-Ok.ensures.read

pub returns-in-Err-Syntax-clause-refused : goal.returns-in-Err-Syntax-clause-refused
returns-in-Err-Syntax-clause-refused c =
    let made = rw c.in-Err-Syntax.field-0-is at c.in-Err-Syntax.ensures in
    no_pattern c.args.source.now c.in-Err-Syntax.field-0-0 (made.by_grammar c.in-Err-Syntax.field-0-0 refl) made.kind

pub returns-in-Err-CompiledTooBig-clause-refused : goal.returns-in-Err-CompiledTooBig-clause-refused
returns-in-Err-CompiledTooBig-clause-refused c =
    let made = rw c.in-Err-CompiledTooBig.field-0-is at c.in-Err-CompiledTooBig.ensures in
    some_pattern c.args.source.now made.kind.0 made.kind.1 made.kind.2
