-- Names that are known.
use Rattle.std.specs.Prelude.{ℕ, List, Bool, Option, Some, None, if◌then◌else◌}
use Rattle.std.specs.List.{list_any}
use Rattle.std.specs.Str.{bytes_eq}
use Rattle.serde_json.specs.Data.{Members, no_members, member}

abbrev pub is_among : List (List ℕ) → List ℕ → Bool
is_among names name = list_any (λ candidate. bytes_eq candidate name) names

-- the first other name in byte order
abbrev pub unknown_in : List (List ℕ) → Members → Option (List ℕ)
unknown_in names no_members = None
unknown_in names (member name d ms) = if is_among names name then unknown_in names ms else Some name
