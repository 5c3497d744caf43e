use Rattle.std.proofs.Common.{sym}
use Rattle.std.specs.Prelude.{Any}
use Rattle.session_rounds.specs.Stops.{IsTurnStop}
use Rattle.session_rounds.proofs.RoundLemmas.{done_then}
use Rattle.session_rounds.proofs.StopLemmas.{stops_on}
use Rattle.session_rounds.proofs.rounds.all_done.Goals as goal

pub loop-worker-preserved : goal.loop-worker-preserved
loop-worker-preserved g c =
    λ rest. c.loop-worker.invariant (done_then c.args.workers.now c.loop-worker.worker-index c.worker-item.result c.loop-worker-test.true c.worker-item.is c.in_ok-done.ensures.done rest)

pub returns-in_err-done-clause-stopped : goal.returns-in_err-done-clause-stopped
returns-in_err-done-clause-stopped g c =
    let worker = c.worker-item.result in
    stops_on (λ stop. Any (λ w. IsTurnStop w.turn stop) c.args.workers.now) c.from_residual.result c.in_err-done.field-0.0 c.from_residual.ensures.1
    (c.loop-worker.worker-index, worker, c.loop-worker-test.true, sym c.worker-item.is, c.in_err-done.ensures.stopped)
