use Rattle.fleet_assignment.proofs.CapLemmas.{best_cover_most}
use Rattle.fleet_assignment.proofs.laws.best_cover_most.Goals as goal

pub returns : goal.returns
returns c = best_cover_most
