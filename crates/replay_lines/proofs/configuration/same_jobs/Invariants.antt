use Rattle.std.proofs.Common.{◌≡◌, drop}
use Rattle.replay_lines.specs.Configurations.{same_jobs}
use Rattle.replay_lines.proofs.configuration.same_jobs.Given as goal

abbrev pub invariant-loop-i : goal.invariant-loop-i
invariant-loop-i l = same_jobs (drop l.i l.jobs) (drop l.i l.others) ≡ same_jobs l.jobs l.others
