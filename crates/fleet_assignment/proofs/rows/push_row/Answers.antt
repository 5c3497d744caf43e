use Rattle.std.proofs.Common.{◌≡◌, ℕ, ◌+◌, ◌*◌, ◌<◌, ◌++◌, List, ap, arith, drop, length, sym, ◌∙◌}
use Rattle.fleet.specs.declared.collector.Collector.{Collector}
use Rattle.fleet.specs.declared.job.JobSpec.{JobSpec}
use Rattle.fleet_assignment.specs.Instance.{row_from}
use Rattle.fleet_assignment.proofs.RowLemmas.{row_passed, row_taken}
use Rattle.fleet_assignment.proofs.rows.push_row.Goals.{then-reaches+in_ok-push, else-reaches}
use Rattle.fleet_assignment.proofs.rows.push_row.Goals as goal

pub loop-place-preserved : goal.loop-place-preserved
loop-place-preserved c =
    let fleet = c.args.fleet.now in
    let known = c.args.known.now in
    let place = c.loop-place.place in
    let jobs = length fleet.jobs in
    let all = c.args.bins.now.items ++ row_from jobs 0 fleet.collectors known in
    let rest = row_from jobs (place + 1) (drop (place + 1) fleet.collectors) known in
    let within : place < length fleet.collectors = omega (arith, c.loop-place-test.true, ap (λ (cs : List Collector). length cs) c.collectors-collectors.ensures.collectors) in
    let bin : c.bin_of-bin.result ≡ place * jobs + known.job = c.bin_of-bin.ensures.bin ∙ ap (λ (js : List JobSpec). place * length js + known.job) c.jobs-jobs.ensures.jobs in
    elim c.if-reaches.branch [
      | then-reaches+in_ok-push w ↦
          ap (λ (bins : List ℕ). bins ++ rest) (ap (λ (bins : _). bins.items) w.bins-is ∙ w.in_ok-push.ensures.items)
          ∙ row_taken jobs place fleet.collectors fleet.known c.args.number c.bin_of-bin.result known c.loop-place.bins.items all within c.requires (sym c.reaches.ensures ∙ w.if-reaches.true) bin c.loop-place.invariant
      | else-reaches w ↦
          ap (λ (bins : List ℕ). bins ++ rest) (ap (λ (bins : _). bins.items) w.bins-is)
          ∙ row_passed jobs place fleet.collectors fleet.known c.args.number known c.loop-place.bins.items all within c.requires (sym c.reaches.ensures ∙ w.if-reaches.false) c.loop-place.invariant
    ]
