-- A fleet, and the allocation before.
use Rattle.std.proofs.Common.{ℕ, List}
use Rattle.fleet.specs.Fleet.{FleetState}

pub record Moment : Type 0 where
  pub fleet : FleetState
  pub before : List (ℕ × ℕ)
