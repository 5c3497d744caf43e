use Rattle.std.proofs.Common.{◌≡◌, ◌++◌, take}
use Rattle.std.specs.Prelude.{map}
use Rattle.fleet.specs.ShareLimit.{share_limit}
use Rattle.fleet.specs.declared.job.JobSpec.{JobSpec}
use Rattle.fleet_assignment.proofs.instance.push_limits.Given as goal

abbrev pub invariant-loop-job : goal.invariant-loop-job
invariant-loop-job l = l.limits.items ≡ l.fn.limits.items ++ map (λ (job : JobSpec). share_limit job l.collector) (take l.job-index l.jobs)
