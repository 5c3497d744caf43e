use Rattle.std.proofs.Common.{sym}
use Rattle.replay_lines.proofs.JobLists.{other_lengths_of}
use Rattle.replay_lines.proofs.jobs.are_jobs_of.Goals as goal

pub returns-then-specs-jobs : goal.returns-then-specs-jobs
returns-then-specs-jobs c = sym (other_lengths_of c.args.specs.now c.args.jobs.now c.if-specs-jobs.true)
