use Rattle.handover.proofs.RowLemmas.{row_are}
use Rattle.handover.proofs.rows.held_at.Goals as goal

pub holder-requires : goal.holder-requires
holder-requires c = (c.requires.spans.0, row_are c.requires.spans.0 c.loop-target.target c.args.rows.now c.index-rows-target.result (c.requires.spans.1 c.loop-target.target) c.loop-target-test.true c.index-rows-target.is)
