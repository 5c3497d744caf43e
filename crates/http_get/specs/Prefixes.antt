-- Texts that begin with another.
use Rattle.std.specs.Prelude.{ℕ, List, Option, Some, None, length, drop, nat_eq, if◌then◌else◌}
use Rattle.std.specs.List.{starts_with}

-- what stands behind the prefix, where the text begins with it
abbrev pub behind : List ℕ → List ℕ → Option (List ℕ)
behind prefix text = if starts_with nat_eq text prefix then Some (drop (length prefix) text) else None
