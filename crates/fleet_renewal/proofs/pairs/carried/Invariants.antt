use Rattle.std.proofs.Common.{◌≡◌, take}
use Rattle.std.specs.List.{filter_map}
use Rattle.fleet_renewal.specs.Renewed.{carried_pair}
use Rattle.fleet_renewal.specs.Tables.{number_in}
use Rattle.fleet_renewal.proofs.pairs.carried.Given as goal

abbrev pub invariant-loop-pair : goal.invariant-loop-pair
invariant-loop-pair l = l.carried.items ≡ filter_map (carried_pair l.fleet (number_in l.numbers)) (take l.pair-index l.pairs)
