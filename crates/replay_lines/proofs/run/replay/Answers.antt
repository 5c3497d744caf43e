use Rattle.std.proofs.Common.{◌≡◌, ◌++◌, rules, sym, ◌∙◌, subst}
use Rattle.std.specs.Prelude.{OnOk, OnErr, IfOk}
use Rattle.replay_lines.specs.Lines.{lines_left, AddsFront}
use Rattle.replay_lines.specs.Replays.{Written, replay_of, written_from, unreadable_at}
use Rattle.replay_lines.proofs.Ahead.{replay_opened, replay_unopened}
use Rattle.replay_lines.proofs.RunLines.{replay_is_run}
use Rattle.replay_lines.proofs.run.replay.Goals as goal

pub returns-in-Some : goal.returns-in-Some
returns-in-Some c =
    let others = lines_left c.first_line.result.1 in
    let same : written_from 2 c.in-Some.core others ≡ replay_of c.args.input.now = sym (replay_opened c.args.input.now c.first_line.result.0.now others c.in-Some.core c.first_line.ensures.lines (sym c.in_ok-core.ensures ∙ c.in-Some.is)) in
    let told = c.answer_lines-ended.ensures in
    let old = c.args.text.now.items in
    let new = c.answer_lines-ended.new.text.items in
    record {
      text = subst (λ (w : Written). OnOk c.answer_lines-ended.result (new ≡ old ++ w.text)) same told.text;
      ended = subst (λ (w : Written). IfOk c.answer_lines-ended.result (λ e. e ≡ w.ended)) same told.ended;
      memory = subst (λ (w : Written). OnErr c.answer_lines-ended.result (AddsFront w.text old new)) same told.memory;
      run = replay_is_run c.published_are_best.ensures c.booked_by_holders.ensures c.args.input.now;
    }

pub returns-in-None : goal.returns-in-None
returns-in-None c =
    let others = lines_left c.first_line.result.1 in
    let same : unreadable_at 1 ≡ replay_of c.args.input.now = sym (replay_unopened c.args.input.now c.first_line.result.0.now others c.first_line.ensures.lines (sym c.in_ok-core.ensures ∙ c.in-None.is)) in
    let told = c.write_unreadable.ensures in
    let old = c.args.text.now.items in
    let new = c.write_unreadable.new.text.items in
    record {
      text = subst (λ (w : Written). OnOk c.write_unreadable.result (new ≡ old ++ w.text)) same told.text;
      ended = subst (λ (w : Written). IfOk c.write_unreadable.result (λ e. e ≡ w.ended)) same told.ended;
      memory = search rules;
      run = replay_is_run c.published_are_best.ensures c.booked_by_holders.ensures c.args.input.now;
    }

pub returns-in_err-core-clause-run : goal.returns-in_err-core-clause-run
returns-in_err-core-clause-run c = replay_is_run c.published_are_best.ensures c.booked_by_holders.ensures c.args.input.now
