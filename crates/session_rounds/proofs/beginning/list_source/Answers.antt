use Rattle.std.proofs.Common.{◌≡◌, [], arith, subst, sym}
use Rattle.fleet_events.specs.declared.event.Event.{Event}
use Rattle.session_rounds.specs.Stops.{IsListed, IsStop}
use Rattle.session_rounds.proofs.StopLemmas.{refresh_listed, returns_stop, stop_within}
use Rattle.session_rounds.proofs.beginning.list_source.Goals as goal

pub returns-in-Ok-clause-stopped : goal.returns-in-Ok-clause-stopped
returns-in-Ok-clause-stopped g c =
    let opening = g.N.DeskName.opening in
    let job = c.args.job.now in
    let rules = c.args.rules.now in
    let event = c.in-Ok.event in
    let listed = refresh_listed job rules c.args.source event g.S.Scrape.may_fetch c.args.refresher.now.scrape c.refresh.new.scrape c.in-Ok.ensures in
    let Here : Event → Type 0 = λ e. e ≡ event in
    let old = c.args.refresher.now.pass in
    let new = c.enter.new.pass in
    returns_stop (IsStop opening old new Here []) (IsStop opening old new (IsListed job rules) []) c.enter.result
    (λ stop was. stop_within opening old old new Here (IsListed job rules) [] stop (omega arith) (λ e same. subst (IsListed job rules) (sym same) listed) was) c.enter.ensures.stopped
