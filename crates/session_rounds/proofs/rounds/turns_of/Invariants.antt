use Rattle.std.proofs.Common.{◌≡◌, ◌++◌, drop, map}
use Rattle.session_rounds.specs.Turns.{turns_in}
use Rattle.session_rounds.proofs.rounds.turns_of.Given as goal

abbrev pub invariant-loop-worker : goal.invariant-loop-worker
invariant-loop-worker g l = l.turns.items ++ turns_in (map (λ w. w.turn) (drop l.worker-index l.workers)) ≡ turns_in (map (λ w. w.turn) l.workers)
