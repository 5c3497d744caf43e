-- The names of collectors: 1 to 128 bytes.
use Rattle.std.specs.Prelude.{ℕ, List, length, Bool, ◌&&◌, nat_lt, nat_le, Option, Some, None, option_and_then, if◌then◌else◌}
use Rattle.std.specs.Ordering.{nat_cmp}
use Rattle.std.specs.declared.cmp.Ordering.{Ordering}
use Rattle.std.specs.Cmp.Lexicographic.{slice_cmp}
use Rattle.serde_json.specs.Data.{Data}
use Rattle.serde_json.specs.Find.{as_str}
use Rattle.reach_rules.specs.declared.name.TheConstants.{LONGEST_NAME}

abbrev pub is_collector_name : List ℕ → Bool
is_collector_name name = nat_lt 0 (length name) && nat_le (length name) LONGEST_NAME

-- a text that is a collector's name
abbrev pub collector_name : List ℕ → Option (List ℕ)
collector_name text = if is_collector_name text then Some text else None

-- the name that a JSON value spells
abbrev pub name_in : Data → Option (List ℕ)
name_in d = option_and_then collector_name (as_str d)

-- byte order
abbrev pub byte_cmp : List ℕ → List ℕ → Ordering
byte_cmp = slice_cmp nat_cmp
