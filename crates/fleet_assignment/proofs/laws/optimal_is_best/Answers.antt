use Rattle.fleet_assignment.proofs.Moment.{Moment}
use Rattle.fleet_assignment.proofs.TransferLemmas.{best_of, carried_over, optimal_by}
use Rattle.fleet_assignment.proofs.laws.optimal_is_best.Goals as goal

pub returns : goal.returns
returns c = λ fleet before plan kept once feasible. let m : Moment = record { fleet = fleet; before = before } in (λ optimal. best_of m plan kept once (carried_over m plan kept once feasible).sound optimal, optimal_by m plan kept once feasible)
