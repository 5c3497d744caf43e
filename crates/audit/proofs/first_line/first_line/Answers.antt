use Rattle.std.proofs.Common.{rules}
use Rattle.audit.proofs.FirstLine.{line_at, line_whole}
use Rattle.audit.proofs.first_line.first_line.Goals as goal

pub returns-in-Some : goal.returns-in-Some
returns-in-Some c = line_at c.args.journal.now c.in-Some.end (search rules) (search rules) (search rules)

pub returns-in-None : goal.returns-in-None
returns-in-None c = line_whole c.args.journal.now (search rules)
