use Rattle.std.proofs.Common.{◌≡◌, take}
use Rattle.fleet_renewal.specs.Renewed.{renewed_lists}
use Rattle.fleet_renewal.specs.Tables.{number_in}
use Rattle.fleet_renewal.proofs.listing.renewed_lists.Given as goal

abbrev pub invariant-loop-job : goal.invariant-loop-job
invariant-loop-job l = l.listed.items ≡ renewed_lists l.fleet (number_in l.numbers) (take l.job-index l.jobs)
