use Rattle.fleet_assignment.proofs.laws.plan_laws.Goals as goal

pub returns : goal.returns
returns c =
    record {
      optimal = c.certified_is_optimal.ensures;
      faultless = c.no_fault_is_certified.ensures;
      problems = c.instances_are_problems.ensures;
      carried = c.feasible_are_carried_over.ensures;
      best = c.optimal_is_best.ensures;
      within = c.best_within_is_carried_over.ensures;
      once = c.allocations_are_once.ensures;
    }
