use Rattle.std.proofs.Common.{◌≡◌, ◌≤◌, length, true, arith}
use Rattle.std.proofs.lemmas.Grind.{common_steps}
use Rattle.std.proofs.Math.Nat.{mul-le-mul}
use Rattle.fleet.specs.Jobs.{are_jobs}
use Rattle.fleet_renewal.proofs.JobLemmas.{few_jobs}
use Rattle.fleet_renewal.proofs.renewing.fleet_refusal.Goals as goal

pub overflow_mul-jobs : goal.overflow_mul-jobs
overflow_mul-jobs c =
    let good : are_jobs c.args.jobs.now ≡ true = grind (arith, common_steps) in
    let few : length c.args.jobs.now ≤ 1024 = few_jobs c.args.jobs.now good in
    omega (arith, mul-le-mul few c.collectors.ensures.few)
