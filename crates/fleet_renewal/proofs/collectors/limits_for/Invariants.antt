use Rattle.std.proofs.Common.{◌≡◌, take}
use Rattle.fleet_renewal.specs.Renewed.{limits_for}
use Rattle.fleet_renewal.proofs.collectors.limits_for.Given as goal

abbrev pub invariant-loop-entry : goal.invariant-loop-entry
invariant-loop-entry l = l.kept.items ≡ limits_for l.jobs (take l.entry-index l.entries)
