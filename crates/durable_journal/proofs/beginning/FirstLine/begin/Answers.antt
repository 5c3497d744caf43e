use Rattle.durable_journal.proofs.FirstLines.{begun}
use Rattle.durable_journal.proofs.beginning.FirstLine.begin.Goals as goal

pub returns-clause-form : goal.returns-clause-form
returns-clause-form g c =
    let at_first = c.in_ok-line.ensures in
    let written = c.in_ok-write_value.ensures in
    begun g.F.Write.contents c.args.self.now c.args.file c.in_ok-line.line c.write_value.new.out c.end.result written.0 at_first.file at_first.digest at_first.bytes written.1 written.2 c.end.ensures.chain c.end.ensures.file c.end.ensures.bytes
