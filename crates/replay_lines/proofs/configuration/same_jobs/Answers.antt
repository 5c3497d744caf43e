use Rattle.std.proofs.Common.{sym}
use Rattle.replay_lines.proofs.JobLists.{other_lengths}
use Rattle.replay_lines.proofs.configuration.same_jobs.Goals as goal

pub returns-then-jobs-others : goal.returns-then-jobs-others
returns-then-jobs-others c = sym (other_lengths c.args.jobs.now c.args.others.now c.if-jobs-others.true)
