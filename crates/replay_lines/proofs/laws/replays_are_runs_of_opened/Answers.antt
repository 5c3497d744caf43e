use Rattle.replay_lines.proofs.RunLines.{is_run_of_opened}
use Rattle.replay_lines.proofs.laws.replays_are_runs_of_opened.Goals as goal

pub returns : goal.returns
returns c = is_run_of_opened
