use Rattle.std.proofs.Common.{refl, arith}
use Rattle.fleet_assignment.proofs.Placing.{places_start, places_step, places_end}
use Rattle.fleet_assignment.proofs.table.place_all.Goals as goal

pub loop-i-init : goal.loop-i-init
loop-i-init c = places_start _ _

pub loop-i-preserved : goal.loop-i-preserved
loop-i-preserved c = places_step _ _ _ _ _ _ c.loop-i-test.true refl c.loop-i.invariant c.place.ensures

pub returns : goal.returns
returns c = places_end _ _ _ _ (omega arith) c.loop-i.invariant
