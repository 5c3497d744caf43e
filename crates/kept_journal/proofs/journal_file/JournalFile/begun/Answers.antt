use Rattle.kept_journal.proofs.Beginning.{begun_leads}
use Rattle.kept_journal.proofs.journal_file.JournalFile.begun.Goals as goal

pub returns : goal.returns
returns g c = λ first m is opens whole. begun_leads g.F.Device.tells g.F.Write.contents first m c.args.begun is opens
