use Rattle.fleet_assignment.proofs.ProblemLemmas.{problem_is}
use Rattle.fleet_assignment.proofs.laws.instances_are_problems.Goals as goal

pub returns : goal.returns
returns c = λ fleet before kept. problem_is (record { fleet = fleet; before = before }) kept
