use Rattle.journal_files.proofs.Starts.{line_opens}
use Rattle.journal_files.proofs.reading.configured.Goals as goal

pub returns : goal.returns
returns c = line_opens c.args.line.now c.in_ok-resumed.field-0 c.in_ok-resumed.ensures
