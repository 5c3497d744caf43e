use Rattle.std.proofs.Common.{ap}
use Rattle.durable_journal.proofs.Found.{recovered}
use Rattle.durable_journal.proofs.recovering.recover.Goals as goal

pub returns : goal.returns
returns g c =
    recovered (g.F.Read.remaining c.args.file.now) (g.F.Read.remaining c.take.result.inner.now) c.take.result.limit c.new-bytes.result.items c.read_to_end.new.buf.items c.in_ok-found.field-0
    (ap (λ r. g.F.Read.remaining r.now) c.take.ensures.inner) c.take.ensures.limit c.new-bytes.ensures.items c.in_ok-read_to_end.ensures.bytes c.in_ok-found.ensures
