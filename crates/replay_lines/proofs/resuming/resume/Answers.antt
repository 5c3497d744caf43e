use Rattle.std.proofs.Common.{◌≡◌, IfOk, sym, ◌∙◌, subst}
use Rattle.replay_lines.specs.Lines.{lines_left}
use Rattle.replay_lines.specs.Replays.{replay_of}
use Rattle.replay_lines.specs.Resumes.{EndsAs, resumed, resumed_from}
use Rattle.replay_lines.proofs.Resumptions.{ends_as, ends_there_too, resumed_opened, resumed_unopened, resumed_with}
use Rattle.replay_lines.proofs.resuming.resume.Goals.{After-with_core}
use Rattle.replay_lines.proofs.resuming.resume.Goals as goal

state_there : (c : After-with_core) → IfOk c.with_core.result (λ r. r ≡ resumed c.args.input.now)
state_there c =
    let others = lines_left c.first_line.result.1 in
    let same : resumed c.args.input.now ≡ resumed_from c.in-Some.core others =
    resumed_opened c.args.input.now c.first_line.result.0.now others c.in-Some.core c.first_line.ensures.lines (sym c.in_ok-core.ensures ∙ c.in-Some.is) in
    subst (λ w. IfOk c.with_core.result (λ r. r ≡ w)) (sym same) (resumed_with c.apply_lines-applied.result c.with_core.result c.apply_lines-applied.new.core (resumed_from c.in-Some.core others) c.apply_lines-applied.ensures c.with_core.ensures)

pub returns-in-Some-clause-state : goal.returns-in-Some-clause-state
returns-in-Some-clause-state c = state_there c

pub returns-in-Some-clause-replay : goal.returns-in-Some-clause-replay
returns-in-Some-clause-replay c = ends_there_too c.args.input.now c.with_core.result (state_there c)

pub returns-in-None-clause-state : goal.returns-in-None-clause-state
returns-in-None-clause-state c =
    sym (resumed_unopened c.args.input.now c.first_line.result.0.now (lines_left c.first_line.result.1) c.first_line.ensures.lines (sym c.in_ok-core.ensures ∙ c.in-None.is))

pub returns-in-None-clause-replay : goal.returns-in-None-clause-replay
returns-in-None-clause-replay c =
    let same = resumed_unopened c.args.input.now c.first_line.result.0.now (lines_left c.first_line.result.1) c.first_line.ensures.lines (sym c.in_ok-core.ensures ∙ c.in-None.is) in
    subst (EndsAs (replay_of c.args.input.now)) same (ends_as c.args.input.now)
