use Rattle.label_sets.proofs.ReadBack.{target_reads}
use Rattle.label_sets.proofs.target.Target.write.Goals as goal

pub returns-clause-reads : goal.returns-clause-reads
returns-clause-reads c = rw (← c.self.view_is) (target_reads _ c.self.invariant.1.labels.ordered)
