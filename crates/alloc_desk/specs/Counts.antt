-- What contracts see of a pass.
use Rattle.std.specs.Prelude.{ℕ, zero, suc, List, [], ◌∷◌, ◌++◌}

pub record Counts : Type 0 where
  pub seat : ℕ
  pub calls : ℕ
  pub booked : ℕ

-- so many passes that did nothing, in order of their seats
abbrev pub first_counts : ℕ → List Counts
first_counts zero = []
first_counts (suc seat) = first_counts seat ++ record { seat = seat; calls = 0; booked = 0 } ∷ []
