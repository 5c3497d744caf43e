use Rattle.std.proofs.Common.{arith}
use Rattle.std.proofs.lemmas.Grind.{common_steps}
use Rattle.std.proofs.lemmas.List.Elements.{filter_map-append}
use Rattle.fleet_renewal.proofs.listing.renumbered.Goals as goal

pub loop-target-preserved : goal.loop-target-preserved
loop-target-preserved c = grind (arith, common_steps, filter_map-append)
