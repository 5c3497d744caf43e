use Rattle.std.proofs.Common.{◌≡◌, map}
use Rattle.std.specs.List.{filter_map}
use Rattle.fleet_renewal.specs.Renewed.{fitted}
use Rattle.fleet_renewal.specs.Tables.{number_in}
use Rattle.fleet_renewal.proofs.listing.fitted.Given as goal

abbrev pub invariant-loop-source : goal.invariant-loop-source
invariant-loop-source l = l.renewed.items ≡ fitted l.source (map (filter_map (number_in l.numbers)) l.lists)
