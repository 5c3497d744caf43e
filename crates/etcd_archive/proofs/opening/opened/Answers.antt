use Rattle.journal_files.specs.Starting.{asked_by}
use Rattle.etcd_archive.proofs.Opens.{opened_from}
use Rattle.etcd_archive.proofs.opening.opened.Goals as goal

pub returns-in-Ok : goal.returns-in-Ok
returns-in-Ok g c = opened_from _ _ (asked_by c.args.wanted) _ c.in-Ok.start c.begin.result c.in-Ok.ensures c.begin.ensures
