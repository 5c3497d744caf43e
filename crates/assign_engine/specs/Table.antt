-- A table that is filled in one step.
use Rattle.std.specs.Prelude.{◌+◌, ◌-◌, ◌^◌, ◌<◌, ◌≤◌, ℕ, List, min}
use Rattle.std.specs.List.{All}

-- the number that is read where this is stored
abbrev pub read_as : ℕ → ℕ → ℕ → ℕ
read_as floor filling stored = min (stored - floor) filling

-- nothing is stored below the floor, and the greatest number can be stored
pub record IsTable (stored : List ℕ) (floor filling : ℕ) : Type 0 where
  pub above : All (λ x. floor ≤ x) stored
  pub fits : floor + filling < 2 ^ 64
