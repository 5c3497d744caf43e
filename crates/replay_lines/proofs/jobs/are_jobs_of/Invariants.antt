use Rattle.std.proofs.Common.{◌≡◌, drop, map}
use Rattle.sd_documents.specs.Config.{job_data}
use Rattle.replay_lines.specs.Configurations.{same_jobs, spec_of}
use Rattle.replay_lines.proofs.jobs.are_jobs_of.Given as goal

abbrev pub invariant-loop-i : goal.invariant-loop-i
invariant-loop-i l = same_jobs (drop l.i l.specs) (map spec_of (map job_data (drop l.i l.jobs))) ≡ same_jobs l.specs (map spec_of (map job_data l.jobs))
