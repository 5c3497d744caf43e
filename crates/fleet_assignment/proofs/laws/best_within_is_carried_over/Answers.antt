use Rattle.fleet_assignment.proofs.CapLemmas.{best_within}
use Rattle.fleet_assignment.proofs.laws.best_within_is_carried_over.Goals as goal

pub returns : goal.returns
returns c = λ fleet caps before plan kept once best. best_within (record { fleet = fleet; before = before }) caps plan kept once best
