use Rattle.kept_journal.specs.Keeping.{IsOfService}
use Rattle.service_tasks.specs.Later.{IsLater}
use Rattle.daemon.proofs.serving.serve_desks.Given as goal

abbrev pub invariant-loop-turn : goal.invariant-loop-turn
invariant-loop-turn g l = record {
  later : IsLater l.fn.core l.core;
  file : IsOfService g.F.Device.tells g.F.Write.contents l.core l.context.journal.file;
}
