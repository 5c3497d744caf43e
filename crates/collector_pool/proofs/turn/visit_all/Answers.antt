use Rattle.std.proofs.Common.{◌≡◌, ℕ, ◌<◌, ◌-◌, length, ap, refl, sym, subst, arith, rules}
use Rattle.std.specs.Prelude.{Option, None, Some, get_or}
use Rattle.std.proofs.lemmas.Option.{slice_get-get_or}
use Rattle.alloc_desk.specs.Counts.{Counts}
use Rattle.collector_pool.specs.Visits.{IsUnreported}
use Rattle.collector_pool.specs.declared.turn.Turn.{Turn}
use Rattle.collector_pool.specs.declared.turn.TurnEnd.TheVariants.{Complete}
use Rattle.collector_pool.proofs.VisitLemmas.{unreported_earlier}
use Rattle.collector_pool.proofs.WorkLemmas.{progress_none, progress_then, worked}
use Rattle.collector_pool.proofs.turn.visit_all.Goals as goal

pub loop-target-init : goal.loop-target-init
loop-target-init g c =
    record {
      calls = omega arith;
      seat = refl;
      count = refl;
      progress = progress_none g.S.Scrape.may_fetch g.N.DeskName.opening c.args.pass.now c.args.jobs.now c.args.taken.collector c.args.taken.allocation c.args.taken.round c.args.held.now c.args.scrape.now;
    }

pub returns-in-Err-clause-worked : goal.returns-in-Err-clause-worked
returns-in-Err-clause-worked g c =
    let opening = g.N.DeskName.opening in
    let counts = c.args.pass.now in
    let jobs = c.args.jobs.now in
    let taken = c.args.taken in
    let held = c.args.held.now in
    let inv = c.loop-target.invariant in
    let n = c.loop-target.target-index in
    let last = c.in-Err.ensures.unreported in
    let below : n < length held = omega (arith, c.loop-target-test.true) in
    let same = ap (λ (p : Counts). p.booked) c.in-Err.ensures.err in
    let turn : Turn = record { number = taken.allocation; booked = c.loop-target.booked; refused = c.loop-target.refused; samples = c.booked.result - c.booked-start.result; end = c.end_of.result } in
    let U : Option ℕ → Type 0 = λ next. IsUnreported opening counts jobs next last.0 in
    let unreported = subst U (sym (slice_get-get_or held n 0 below)) (unreported_earlier opening counts c.loop-target.pass jobs (Some (get_or held n 0)) last.0 (omega (arith, inv.calls)) (omega (arith, inv.progress.samples)) last.2) in
    worked g.S.Scrape.may_fetch opening counts jobs taken.collector taken.allocation taken.round held c.args.scrape.now c.loop-target.pass c.loop-target.scrape c.visit.new.scrape n last.0 turn inv.progress inv.count (omega arith) (omega (arith, same, c.booked.ensures, c.booked-start.ensures)) unreported last.1 (λ e. absurd (c.end_of.ensures.stops.0 e)) c.end_of.ensures.stops.1

pub loop-target-preserved : goal.loop-target-preserved
loop-target-preserved g c =
    let opening = g.N.DeskName.opening in
    let held = c.args.held.now in
    let taken = c.args.taken in
    let inv = c.loop-target.invariant in
    let n = c.loop-target.target-index in
    let v = c.in-Ok.ensures.visited in
    let below : n < length held = omega (arith, c.loop-target-test.true) in
    record {
      calls = omega (arith, inv.calls, v.calls, v.tallied.1);
      seat = search rules;
      count = omega (arith, inv.count, v.tallied.1);
      progress = progress_then g.S.Scrape.may_fetch opening c.args.pass.now c.args.jobs.now taken.collector taken.allocation taken.round held c.args.scrape.now c.loop-target.pass c.visit.new.pass c.loop-target.scrape c.visit.new.scrape n c.loop-target.booked _ 0 c.in-Ok.tally inv.progress v below refl (omega (arith, inv.calls));
    }

pub returns-clause-worked : goal.returns-clause-worked
returns-clause-worked g c =
    let taken = c.args.taken in
    let inv = c.loop-target.invariant in
    let n = c.loop-target.target-index in
    let held = c.args.held.now in
    let all : n ≡ length held = omega (arith, c.loop-target-test.false) in
    let turn : Turn = record { number = taken.allocation; booked = c.loop-target.booked; refused = c.loop-target.refused; samples = c.booked-2.result - c.booked-start.result; end = Complete } in
    worked g.S.Scrape.may_fetch g.N.DeskName.opening c.args.pass.now c.args.jobs.now taken.collector taken.allocation taken.round held c.args.scrape.now c.loop-target.pass c.loop-target.scrape c.loop-target.scrape n None turn inv.progress inv.count (omega arith) (omega (arith, c.booked-2.ensures, c.booked-start.ensures)) tt refl (λ e. all) (λ e. absurd (cc))
