use Rattle.std.proofs.Common.{◌≡◌, map, take}
use Rattle.sd_documents.specs.Config.{job_data}
use Rattle.replay_lines.specs.Configurations.{spec_of}
use Rattle.replay_lines.proofs.configuration.specs_of.Given as goal

abbrev pub invariant-loop-job : goal.invariant-loop-job
invariant-loop-job l = l.specs.items ≡ map spec_of (map job_data (take l.job-index l.jobs))
