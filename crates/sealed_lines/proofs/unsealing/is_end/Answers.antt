use Rattle.sealed_lines.proofs.LineByLine.{at_empty}
use Rattle.sealed_lines.proofs.unsealing.is_end.Goals as goal

pub returns-then-is_empty : goal.returns-then-is_empty
returns-then-is_empty c = at_empty c.args.line.now c.args.others c.is_empty.result c.is_none.result c.is_empty.ensures c.if-is_empty.true c.is_none.ensures
