use Rattle.std.proofs.Common.{◌≡◌, take}
use Rattle.fleet.specs.Jobs.{nothing_listed}
use Rattle.fleet.proofs.jobs.nothing_listed.Given as goal

abbrev pub invariant-loop-job : goal.invariant-loop-job
invariant-loop-job l = l.listed.items ≡ nothing_listed (take l.job-index l.jobs)
