use Rattle.std.proofs.Common.{false}
use Rattle.journal_files.specs.Starting.{asked_by}
use Rattle.journal_files.proofs.Opens.{opened_of}
use Rattle.journal_files.proofs.opening.open_at.Goals as goal

pub returns-in-Ok-clause-opened : goal.returns-in-Ok-clause-opened
returns-in-Ok-clause-opened g c = opened_of false _ (asked_by c.args.wanted) _ c.in-Ok.start c.begin.result c.in-Ok.ensures c.begin.ensures.opened
