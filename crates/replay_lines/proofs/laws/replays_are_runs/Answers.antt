use Rattle.replay_lines.proofs.RunLines.{replays_are_runs}
use Rattle.replay_lines.proofs.laws.replays_are_runs.Goals as goal

pub returns : goal.returns
returns c = replays_are_runs c.published_are_best.ensures c.booked_by_holders.ensures
