use Rattle.daemon.proofs.serving.serve_desks.Goals as goal
use Rattle.daemon.proofs.Laters.{later_trans}

pub returns-then-eq : goal.returns-then-eq
returns-then-eq g c = later_trans _ _ _ c.loop-turn.invariant.later c.in_ok-later.ensures.later

pub loop-turn-preserved : goal.loop-turn-preserved
loop-turn-preserved g c = record {
  later = later_trans _ _ _ (later_trans _ _ _ c.loop-turn.invariant.later c.in_ok-later.ensures.later) c.in_ok-core.ensures.later;
  file = c.in_ok-core.ensures.file;
}
