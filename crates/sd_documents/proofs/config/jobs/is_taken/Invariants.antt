use Rattle.std.proofs.Common.{◌≡◌, drop, map}
use Rattle.sd_documents.specs.Config.{job_data, is_taken}
use Rattle.sd_documents.proofs.config.jobs.is_taken.Given as goal

abbrev pub invariant-loop-job : goal.invariant-loop-job
invariant-loop-job l = is_taken (map job_data (drop l.job-index l.jobs)) l.name ≡ is_taken (map job_data l.jobs) l.name
