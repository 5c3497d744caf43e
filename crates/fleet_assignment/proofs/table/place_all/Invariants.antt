use Rattle.fleet_assignment.proofs.Placing.{PlacesLeft}
use Rattle.fleet_assignment.proofs.table.place_all.Given as goal

abbrev pub invariant-loop-i : goal.invariant-loop-i
invariant-loop-i l = PlacesLeft l.pairs l.i l.fn.places l.places
