use Rattle.std.proofs.Common.{◌≡◌, ◌∙◌, ◌++◌, ◌+◌, ℕ, List, take, ap, drop}
use Rattle.agent_core.specs.Told.{Told}
use Rattle.agent_core.specs.Choices.{after, chosen, chosen_of, points_of, with_chosen}
use Rattle.agent_core.specs.declared.slot.Point.{Point}
use Rattle.agent_core.specs.declared.report.Report.{Report}
use Rattle.agent_core.proofs.ChoiceLemmas.{after_more, after_next, chosen_more, on_err}
use Rattle.agent_core.proofs.choosing.choose.Goals as goal

pub loop-listed-preserved : goal.loop-listed-preserved
loop-listed-preserved c =
    let told = c.loop-listed.memory in
    let head = c.args.head in
    let said = c.args.said.now.entries in
    let targets = c.args.targets.now in
    let i = c.loop-listed.listed-index in
    let listed = c.listed-item.result in
    let o = c.in_ok-report.report in
    let one : o ≡ chosen_of told head (points_of said listed.series) listed = c.in_ok-report.ensures.report ∙ ap (λ (ps : List Point). chosen_of told head ps listed) c.points_of-points.ensures in
    let memory : c.choose_one.new.memory ≡ with_chosen told o = c.in_ok-report.ensures.memory in
    let next_told = after_next c.args.memory.now head said targets i listed o told c.loop-listed-test.true c.listed-item.is c.loop-listed.invariant.so_far one in
    record {
      told =
          ap (λ (t : Told). c.add.new.items.items ++ chosen t head said (drop (i + 1) targets)) memory
          ∙ ap (λ (rs : List Report). rs ++ chosen (with_chosen told o) head said (drop (i + 1) targets)) c.in_ok-add.ensures
          ∙ chosen_more told head said targets i listed o c.loop-listed.reports.items c.loop-listed-test.true c.listed-item.is one
          ∙ c.loop-listed.invariant.told;
      so_far = memory ∙ next_told;
      rest =
          ap (λ (t : Told). after t head said (drop (i + 1) targets)) memory
          ∙ after_more told head said targets i listed o c.loop-listed-test.true c.listed-item.is one
          ∙ c.loop-listed.invariant.rest;
    }

pub returns-in_err-add-clause-err : goal.returns-in_err-add-clause-err
returns-in_err-add-clause-err c =
    let told = c.loop-listed.memory in
    let head = c.args.head in
    let said = c.args.said.now.entries in
    let targets = c.args.targets.now in
    let i = c.loop-listed.listed-index in
    let listed = c.listed-item.result in
    let o = c.in_ok-report.report in
    let one : o ≡ chosen_of told head (points_of said listed.series) listed = c.in_ok-report.ensures.report ∙ ap (λ (ps : List Point). chosen_of told head ps listed) c.points_of-points.ensures in
    let memory : c.choose_one.new.memory ≡ with_chosen told o = c.in_ok-report.ensures.memory in
    on_err c.from_residual-in_err-add.result ((count : ℕ) × (c.choose_one.new.memory ≡ after c.args.memory.now head said (take count targets)))
    (i + 1, memory ∙ after_next c.args.memory.now head said targets i listed o told c.loop-listed-test.true c.listed-item.is c.loop-listed.invariant.so_far one)
