use Rattle.std.proofs.Common.{◌≡◌, [], get_or, subst, sym}
use Rattle.std.specs.Prelude.{Contains}
use Rattle.fleet_events.specs.declared.event.Event.{Event}
use Rattle.session_rounds.specs.Stops.{IsStop}
use Rattle.session_rounds.proofs.StopLemmas.{stop_within, stops_on}
use Rattle.session_rounds.proofs.entering.enter_joins.Goals as goal

pub returns-in_err-enter-clause-stopped : goal.returns-in_err-enter-clause-stopped
returns-in_err-enter-clause-stopped g c =
    let opening = g.N.DeskName.opening in
    let joins = c.args.joins.now in
    let stop = c.in_err-enter.field-0.0 in
    let join = c.in_ok-join.join in
    let At : Event → Type 0 = λ e. get_or joins c.loop-join.join-index e ≡ e in
    let at = subst At (sym c.in_ok-join.ensures) (sym c.join-item.is) in
    let old = c.args.pass.now in
    let new = c.enter.new.pass in
    let among =
    stop_within opening old c.loop-join.pass new (λ e. e ≡ join) (Contains joins) [] stop c.loop-join.invariant.grown (λ e same. (c.loop-join.join-index, c.loop-join-test.true, subst At (sym same) at))
    c.in_err-enter.ensures.stopped
    in
    stops_on (IsStop opening old new (Contains joins) []) c.from_residual-in_err-enter.result stop c.from_residual-in_err-enter.ensures.1 among
