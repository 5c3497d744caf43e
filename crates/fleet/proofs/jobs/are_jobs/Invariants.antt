use Rattle.std.proofs.Common.{◌≡◌, [], drop, take}
use Rattle.fleet.specs.Jobs.{are_named}
use Rattle.fleet.proofs.jobs.are_jobs.Given as goal

abbrev pub invariant-loop-i : goal.invariant-loop-i
invariant-loop-i l = are_named (take l.i l.jobs) (drop l.i l.jobs) ≡ are_named [] l.jobs
