use Rattle.std.proofs.Common.{◌≡◌, ◌<◌, ◌∙◌, List, [], arith, get_or, inl, inr, length, subst, sym}
use Rattle.std.specs.Prelude.{Contains, Ok}
use Rattle.serde_json.specs.View.{items_view}
use Rattle.sd_documents.specs.declared.config.Job.{Job}
use Rattle.relabel.specs.Applying.{IsRefusedFrom, rules_said}
use Rattle.relabel.specs.Compiling.{any_text}
use Rattle.fleet_events.specs.declared.event.Event.{Event}
use Rattle.session_rounds.specs.Stops.{IsBeginning, IsListed, IsQuietStop, IsStop}
use Rattle.session_rounds.proofs.AskingLemmas.{job_then}
use Rattle.session_rounds.proofs.StopLemmas.{none_read, quiet_stop, returns_stop, rules_stop_on, stop_within, stops_on}
use Rattle.session_rounds.proofs.beginning.begin.Goals as goal

pub loop-job-preserved : goal.loop-job-preserved
loop-job-preserved g c =
    let jobs = c.args.session.now.config.jobs in
    let job = c.job-item.result in
    let inv = c.loop-job.invariant in
    let done = c.in-Ok.ensures in
    let Below : List Job → Type 0 = λ js. c.loop-job.job-index < length js in
    let At : List Job → Type 0 = λ js. job ≡ get_or js c.loop-job.job-index job in
    let below = subst Below c.as_slice-job-items.ensures c.loop-job-test.true in
    let at = subst At c.as_slice-job-items.ensures c.job-item.is in
    let Said : _ → Type 0 = λ values. rules_said (items_view values) ≡ Ok c.in_ok-rules.rules in
    let said = subst Said c.as_slice-in-loop-job.ensures c.in_ok-rules.ensures.rules in
    record {
      asked = λ last after rest. inv.asked last after
          (job_then g.S.Scrape.may_fetch jobs c.loop-job.job-index job c.loop-job.refresher.scrape c.list_job.new.refresher.scrape last c.loop-job.text.items c.list_job.new.text.items after below at
          (record { rules = c.in_ok-rules.rules; said = said; asked = done.asked }) rest);
      booked = λ nothing. done.booked ∙ inv.booked nothing;
      seat = done.seat ∙ inv.seat;
      grown = omega (arith, done.grown, inv.grown);
    }

pub returns-in_err-enter_joins-clause-stopped : goal.returns-in_err-enter_joins-clause-stopped
returns-in_err-enter_joins-clause-stopped g c =
    let opening = g.N.DeskName.opening in
    let session = c.args.session.now in
    let jobs = session.config.jobs in
    let old = c.args.refresher.now.pass in
    let new = c.enter_joins.new.pass in
    let stop = c.in_err-enter_joins.field-0.0 in
    let At : List Event → Type 0 = λ joins. IsStop opening old new (Contains joins) [] stop in
    let was = subst At c.as_slice.ensures c.in_err-enter_joins.ensures.stopped in
    stops_on (IsStop opening old new (IsBeginning session) jobs) c.from_residual.result stop c.from_residual.ensures.1
    (stop_within opening old old new (Contains session.joins) (IsBeginning session) jobs stop (omega arith) (λ event among. inl among) was)

pub returns-in_err-rules-clause-stopped : goal.returns-in_err-rules-clause-stopped
returns-in_err-rules-clause-stopped g c =
    let session = c.args.session.now in
    let jobs = session.config.jobs in
    let job = c.job-item.result in
    let Below : List Job → Type 0 = λ js. c.loop-job.job-index < length js in
    let At : List Job → Type 0 = λ js. job ≡ get_or js c.loop-job.job-index job in
    let below = subst Below c.as_slice-job-items.ensures c.loop-job-test.true in
    let at = subst At c.as_slice-job-items.ensures c.job-item.is in
    let error = c.in_err-rules.field-0.0 in
    let Refused : _ → Type 0 = λ values. IsRefusedFrom any_text 1 (items_view values) error in
    let refused = subst Refused c.as_slice-in-loop-job.ensures c.in_err-rules.ensures.refused in
    rules_stop_on g.N.DeskName.opening c.args.refresher.now.pass c.loop-job.refresher.pass (IsBeginning session) jobs c.from_residual-in_err-rules.result error c.loop-job.job-index job below (sym at)
    c.from_residual-in_err-rules.ensures.1 refused

pub returns-in-Err-clause-stopped : goal.returns-in-Err-clause-stopped
returns-in-Err-clause-stopped g c =
    let opening = g.N.DeskName.opening in
    let session = c.args.session.now in
    let jobs = session.config.jobs in
    let job = c.job-item.result in
    let rules = c.in_ok-rules.rules in
    let Below : List Job → Type 0 = λ js. c.loop-job.job-index < length js in
    let At : List Job → Type 0 = λ js. job ≡ get_or js c.loop-job.job-index job in
    let below = subst Below c.as_slice-job-items.ensures c.loop-job-test.true in
    let at = subst At c.as_slice-job-items.ensures c.job-item.is in
    let Said : _ → Type 0 = λ values. rules_said (items_view values) ≡ Ok rules in
    let said = subst Said c.as_slice-in-loop-job.ensures c.in_ok-rules.ensures.rules in
    let old = c.args.refresher.now.pass in
    let new = c.list_job.new.refresher.pass in
    stop_within opening old c.loop-job.refresher.pass new (IsListed job rules) (IsBeginning session) jobs c.in-Err.stop c.loop-job.invariant.grown
    (λ event listed. inr (c.loop-job.job-index, job, below, sym at, (rules, said, listed))) c.in-Err.ensures.stopped

pub returns-clause-stopped : goal.returns-clause-stopped
returns-clause-stopped g c =
    let opening = g.N.DeskName.opening in
    let session = c.args.session.now in
    let jobs = session.config.jobs in
    let More = IsStop opening c.args.refresher.now.pass c.reallocate.new.pass (IsBeginning session) jobs in
    returns_stop (IsQuietStop opening []) More c.reallocate.result
    (λ stop was. quiet_stop opening c.args.refresher.now.pass c.reallocate.new.pass (IsBeginning session) [] jobs stop (none_read jobs) was) c.reallocate.ensures.stopped
