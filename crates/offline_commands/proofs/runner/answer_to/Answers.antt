use Rattle.std.proofs.Common.{ℕ, List, ◌++◌, inr, refl, ap}
use Rattle.offline_commands.specs.Answer.{answer_text, answer_status}
use Rattle.offline_commands.specs.Ending.{stop_line}
use Rattle.offline_commands.specs.declared.ending.Ending.TheVariants.{Answered, Stopped}
use Rattle.offline_commands.specs.declared.ending.Stop.TheVariants.{Memory}
use Rattle.offline_commands.proofs.Endings.{ends_as}
use Rattle.offline_commands.proofs.runner.answer_to.Goals as goal

pub returns-in-Ok : goal.returns-in-Ok
returns-in-Ok g c short =
    ends_as (g.T.Task.answers c.args.task.now) g.T.Task.begins c.args.input.now _ _ (Answered (answer_status c.in-Ok.answer)) _ (answer_text c.in-Ok.answer)
    (c.in-Ok.answer, inr (short, c.in-Ok.ensures.whole), refl, refl) c.write_answer.ensures

pub returns-in-Err : goal.returns-in-Err
returns-in-Err g c short =
    ends_as (g.T.Task.answers c.args.task.now) g.T.Task.begins c.args.input.now _ _ (Stopped Memory) _ (c.as_slice.result.now ++ stop_line Memory)
    (c.in-Err.unfinished.front, c.in-Err.ensures.front, ap (λ (front : List ℕ). front ++ stop_line Memory) c.as_slice.ensures) c.write_stop.ensures
