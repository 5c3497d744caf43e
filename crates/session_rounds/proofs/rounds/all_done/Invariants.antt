use Rattle.std.proofs.Common.{drop, map}
use Rattle.std.specs.Prelude.{All}
use Rattle.session_rounds.specs.Rounds.{IsDone}
use Rattle.session_rounds.specs.Turns.{turns_in}
use Rattle.session_rounds.proofs.rounds.all_done.Given as goal

abbrev pub invariant-loop-worker : goal.invariant-loop-worker
invariant-loop-worker g l = All IsDone (turns_in (map (λ w. w.turn) (drop l.worker-index l.workers))) → All IsDone (turns_in (map (λ w. w.turn) l.workers))
