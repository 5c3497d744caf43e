use Rattle.std.proofs.Common.{◌≡◌, drop}
use Rattle.service_settings.specs.Collectors.{is_taken}
use Rattle.service_settings.proofs.settings.collectors.is_taken.Given as goal

abbrev pub invariant-loop-collector : goal.invariant-loop-collector
invariant-loop-collector l = is_taken (drop l.collector-index l.collectors) l.name ≡ is_taken l.collectors l.name
