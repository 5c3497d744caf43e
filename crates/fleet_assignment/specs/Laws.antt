-- What is known of certificates, instances and allocations.
use Rattle.std.specs.Prelude.{ℕ, List}
use Rattle.price_certificate.specs.Assignment.{IsOptimal}
use Rattle.price_certificate.specs.Certificate.{IsCertified}
use Rattle.price_certificate.specs.Faults.{NoFaultIsCertified}
use Rattle.price_certificate.specs.Problem.{IsProblem, Problem}
use Rattle.fleet_assignment.specs.Best.{AllocationsAreOnce, FeasibleAreCarriedOver, InstancesAreProblems, OptimalIsBest}
use Rattle.fleet_assignment.specs.Within.{BestWithinIsCarriedOver}

pub record PlanLaws : Type 0 where
  pub optimal : (p : Problem) (pairs : List (ℕ × ℕ)) (item_prices bin_prices : List ℕ) → IsProblem p → IsCertified p pairs item_prices bin_prices → IsOptimal p pairs
  pub faultless : NoFaultIsCertified
  pub problems : InstancesAreProblems
  pub carried : FeasibleAreCarriedOver
  pub best : OptimalIsBest
  pub within : BestWithinIsCarriedOver
  pub once : AllocationsAreOnce
