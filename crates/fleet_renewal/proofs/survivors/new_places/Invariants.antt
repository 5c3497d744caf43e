use Rattle.std.proofs.Common.{◌≡◌, take}
use Rattle.fleet_renewal.specs.Renewed.{new_places}
use Rattle.fleet_renewal.proofs.survivors.new_places.Given as goal

abbrev pub invariant-loop-job : goal.invariant-loop-job
invariant-loop-job l = l.places.items ≡ new_places (take l.job-index l.old) l.new
