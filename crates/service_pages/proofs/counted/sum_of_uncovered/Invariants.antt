use Rattle.std.proofs.Common.{◌≡◌, ◌*◌, ◌^◌, ◌≤◌, take}
use Rattle.std.specs.List.{sum_by}
use Rattle.service_pages.specs.Counted.{uncovered}
use Rattle.service_pages.proofs.counted.sum_of_uncovered.Given as goal

abbrev pub invariant-loop-job : goal.invariant-loop-job
invariant-loop-job l = (l.sum ≡ sum_by uncovered (take l.job-index l.jobs)) × (l.sum ≤ 2 ^ 64 * l.job-index)
