use Rattle.fleet_assignment.proofs.TransferLemmas.{carried_over}
use Rattle.fleet_assignment.proofs.laws.feasible_are_carried_over.Goals as goal

pub returns : goal.returns
returns c = λ fleet before plan kept once feasible. carried_over (record { fleet = fleet; before = before }) plan kept once feasible
