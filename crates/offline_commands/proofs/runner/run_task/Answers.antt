use Rattle.offline_commands.specs.Ending.{stop_line}
use Rattle.offline_commands.specs.Unreadable.{unreadable_line}
use Rattle.offline_commands.specs.declared.ending.Ending.TheVariants.{Answered, Stopped}
use Rattle.offline_commands.specs.declared.ending.Status.TheVariants.{Unreadable}
use Rattle.offline_commands.specs.declared.unreadable.Unreadable.TheVariants.{TooLong}
use Rattle.offline_commands.proofs.Endings.{ends_to, too_long_text, stopped_text}
use Rattle.offline_commands.proofs.runner.run_task.Goals as goal

pub returns-in-Ok-TooLong : goal.returns-in-Ok-TooLong
returns-in-Ok-TooLong g c =
    ends_to (g.T.Task.answers c.args.task.now) g.T.Task.begins (g.R.Read.remaining c.args.reader.now) _ _ (Answered Unreadable) _ (unreadable_line TooLong)
    (too_long_text (g.T.Task.answers c.args.task.now) g.T.Task.begins (g.R.Read.remaining c.args.reader.now) (rw c.in-Ok-TooLong.field-0-is at c.in-Ok-TooLong.ensures)) c.write_answer.ensures

pub returns-in-Err : goal.returns-in-Err
returns-in-Err g c =
    ends_to (g.T.Task.answers c.args.task.now) g.T.Task.begins (g.R.Read.remaining c.args.reader.now) _ _ (Stopped c.in-Err.stop) _ (stop_line c.in-Err.stop)
    (stopped_text (g.T.Task.answers c.args.task.now) g.T.Task.begins (g.R.Read.remaining c.args.reader.now) c.in-Err.stop) c.write_stop.ensures
