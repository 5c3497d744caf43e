use Rattle.std.proofs.Common.{refl}
use Rattle.relabel.proofs.Forms.{no_pattern, some_pattern}
use Rattle.relabel.proofs.pattern.read.Goals as goal

pub returns-clause-some : goal.returns-clause-some
returns-clause-some c = some_pattern c.args.source.now _ _ (rw c.default.ensures at c.in_ok-parse.ensures.ok)

pub returns-in_err-parse-clause-none : goal.returns-in_err-parse-clause-none
returns-in_err-parse-clause-none c h =
    let made = rw h at c.from_residual.ensures.1 in
    no_pattern c.args.source.now c.in_err-parse.field-0.0 (rw c.default.ensures at c.in_err-parse.ensures.err) (made.0 refl)
