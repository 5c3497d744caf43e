use Rattle.std.proofs.Common.{◌≡◌, map, take}
use Rattle.fleet.specs.declared.job.JobSpec.{JobSpec}
use Rattle.sd_server.proofs.named.names_of.Given as goal

abbrev pub invariant-loop-job : goal.invariant-loop-job
invariant-loop-job l = l.names ≡ map (λ (job : JobSpec). job.name) (take l.job-index l.jobs)
