use Rattle.std.proofs.Common.{◌≡◌, ◌≤◌, drop}
use Rattle.service_settings.specs.declared.duration.TheConstants.{LONGEST_DURATION}
use Rattle.service_settings.specs.Durations.{sum_from}
use Rattle.service_settings.proofs.duration.sum_of.Given as goal

abbrev pub invariant-loop-unit : goal.invariant-loop-unit
invariant-loop-unit l = record {
  summed : sum_from l.sum (drop l.unit-index l.units) l.left ≡ sum_from 0 l.units l.text;
  within : l.sum ≤ LONGEST_DURATION;
}
