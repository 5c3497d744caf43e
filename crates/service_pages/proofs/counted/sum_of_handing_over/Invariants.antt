use Rattle.std.proofs.Common.{◌≡◌, ◌*◌, ◌^◌, ◌≤◌, take}
use Rattle.std.specs.List.{sum_by}
use Rattle.service_pages.specs.Counted.{handing_over}
use Rattle.service_pages.proofs.counted.sum_of_handing_over.Given as goal

abbrev pub invariant-loop-job : goal.invariant-loop-job
invariant-loop-job l = (l.sum ≡ sum_by handing_over (take l.job-index l.jobs)) × (l.sum ≤ 2 ^ 64 * l.job-index)
