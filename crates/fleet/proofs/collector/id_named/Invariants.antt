use Rattle.std.proofs.Common.{◌≡◌, drop}
use Rattle.fleet.specs.Fleet.{id_named}
use Rattle.fleet.proofs.collector.id_named.Given as goal

abbrev pub invariant-loop-collector : goal.invariant-loop-collector
invariant-loop-collector l = id_named (drop l.collector-index l.collectors) l.name ≡ id_named l.collectors l.name
