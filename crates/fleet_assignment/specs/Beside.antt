-- What stands beside a number in a list of pairs.
use Rattle.std.specs.Prelude.{ℕ, ◌==◌, List, [], ◌∷◌, Option, None, Some, if◌then◌else◌}

-- what stands beside a number, the first where there are several
abbrev pub beside : List (ℕ × ℕ) → ℕ → Option ℕ
beside [] number = None
beside (q ∷ pairs) number = if q.0 == number then Some q.1 else beside pairs number
