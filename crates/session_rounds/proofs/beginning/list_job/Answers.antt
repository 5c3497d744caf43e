use Rattle.std.proofs.Common.{[], ◌+◌, ◌<◌, ◌∙◌, arith, refl}
use Rattle.session_rounds.specs.Beginnings.{asked_count}
use Rattle.session_rounds.specs.Stops.{IsListed, IsStop}
use Rattle.session_rounds.proofs.AskingLemmas.{source_then}
use Rattle.session_rounds.proofs.StopLemmas.{stop_within, stops_on}
use Rattle.session_rounds.proofs.beginning.list_job.Goals as goal

pub loop-index-preserved : goal.loop-index-preserved
loop-index-preserved g c =
    let job = c.args.job.now in
    let inv = c.loop-index.invariant in
    let below : c.loop-index.index < asked_count job = omega (arith, c.loop-index-test.true, c.last_source-index-end.ensures) in
    let source = source_then g.S.Scrape.may_fetch job c.args.rules.now c.loop-index.index (asked_count job) (1 + c.loop-index.index) c.loop-index.refresher.scrape c.list_source.new.refresher.scrape in
    record {
      asked = λ last after rest. inv.asked last after (source last c.loop-index.text.items c.list_source.new.text.items after below refl c.in_ok-list_source.ensures.asked rest);
      booked = c.in_ok-list_source.ensures.booked ∙ inv.booked;
      seat = c.in_ok-list_source.ensures.seat ∙ inv.seat;
      grown = omega (arith, c.in_ok-list_source.ensures.grown, inv.grown);
    }

pub returns-in_err-list_source-clause-stopped : goal.returns-in_err-list_source-clause-stopped
returns-in_err-list_source-clause-stopped g c =
    let opening = g.N.DeskName.opening in
    let listed = IsListed c.args.job.now c.args.rules.now in
    let old = c.args.refresher.now.pass in
    let new = c.list_source.new.refresher.pass in
    let stop = c.in_err-list_source.field-0.0 in
    stops_on (IsStop opening old new listed []) c.from_residual-in_err-list_source.result stop c.from_residual-in_err-list_source.ensures.1
    (stop_within opening old c.loop-index.refresher.pass new listed listed [] stop c.loop-index.invariant.grown (λ e is. is) c.in_err-list_source.ensures.stopped)
