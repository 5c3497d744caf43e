use Rattle.std.proofs.Common.{◌≡◌, ◌∙◌, arith, map, refl}
use Rattle.fleet_events.specs.declared.event.Event.{Event}
use Rattle.fleet_events.specs.declared.event.Event.TheVariants.{NextRound}
use Rattle.session_rounds.specs.Stops.{IsStop}
use Rattle.session_rounds.specs.Turns.{turns_in}
use Rattle.session_rounds.proofs.RoundLemmas.{ran_none, ran_then}
use Rattle.session_rounds.proofs.StopLemmas.{quiet_stop, stop_within, stops_on}
use Rattle.session_rounds.proofs.rounds.run_rounds.Goals as goal

pub loop-round-init : goal.loop-round-init
loop-round-init g c =
    record {
      ran = ran_none g.S.Scrape.may_fetch g.N.DeskName.opening c.args.jobs.now c.args.workers.now c.args.text.now.items;
      booked = refl;
      seat = refl;
      grown = omega arith;
    }

pub loop-round-preserved : goal.loop-round-preserved
loop-round-preserved g c =
    let inv = c.loop-round.invariant in
    let ran = c.in_ok-run_one.ensures in
    let workers = c.run_one.new.workers in
    record {
      ran = ran_then g.S.Scrape.may_fetch g.N.DeskName.opening c.args.jobs.now c.loop-round.round c.args.workers.now c.loop-round.workers workers (turns_in (map (λ w. w.turn) workers)) c.args.text.now.items c.loop-round.text.items c.write_round.new.text.items inv.ran ran.turns ran.done c.in_ok-write_round.ensures;
      booked = ran.booked ∙ c.in_ok-open_round.ensures.booked ∙ inv.booked;
      seat = ran.seat ∙ c.in_ok-open_round.ensures.seat ∙ inv.seat;
      grown = omega (arith, ran.grown, c.in_ok-open_round.ensures.grown, inv.grown);
    }

pub returns-in_err-open_round-clause-stopped : goal.returns-in_err-open_round-clause-stopped
returns-in_err-open_round-clause-stopped g c =
    let opening = g.N.DeskName.opening in
    let jobs = c.args.jobs.now in
    let old = c.args.refresher.now.pass in
    let new = c.open_round.new.pass in
    let Next : Event → Type 0 = λ e. e ≡ NextRound in
    let stop = c.in_err-open_round.field-0.0 in
    stops_on (IsStop opening old new Next jobs) c.from_residual.result stop c.from_residual.ensures.1
    (stop_within opening old c.loop-round.refresher.pass new Next Next jobs stop c.loop-round.invariant.grown (λ e is. is) c.in_err-open_round.ensures.stopped)

pub returns-in_err-run_one-clause-stopped : goal.returns-in_err-run_one-clause-stopped
returns-in_err-run_one-clause-stopped g c =
    let opening = g.N.DeskName.opening in
    let jobs = c.args.jobs.now in
    let old = c.args.refresher.now.pass in
    let new = c.run_one.new.refresher.pass in
    let Next : Event → Type 0 = λ e. e ≡ NextRound in
    let stop = c.in_err-run_one.field-0.0 in
    stops_on (IsStop opening old new Next jobs) c.from_residual-in_err-run_one.result stop c.from_residual-in_err-run_one.ensures.1
    (quiet_stop opening old new Next jobs jobs stop (λ error any. any) c.in_err-run_one.ensures.stopped)
