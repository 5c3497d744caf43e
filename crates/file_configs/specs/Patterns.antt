-- Paths and patterns of discovery by files: a path that ends with `.json`, in the last part of which one star may stand for any bytes
-- (Prometheus's configuration documentation, `<file_sd_config>`).
use Rattle.std.specs.Prelude.{◌≡◌, ◌≢◌, ◌⊎◌, ℕ, ◌+◌, ◌==◌, List, [], ◌∷◌, ◌++◌, Bool, false, not, ◌&&◌, ◌||◌, Option, Some, None, nat_eq, nat_le, nat_lt, length, drop, codes, if◌then◌else◌}
use Rattle.std.specs.Option.{option_map, option_map_or}
use Rattle.std.specs.List.{All, starts_with, ends_with, list_any}
use Rattle.std.specs.Str.Lines.{lines}
use Rattle.file_configs.specs.declared.pattern.PatternFault.{PatternFault}
use Rattle.file_configs.specs.declared.pattern.PatternFault.TheVariants.{Yaml, NoJson, Star, Sign, Control}

-- ---- a source's URL

-- what stands behind the prefix, where the text begins with it
abbrev pub behind_prefix : List ℕ → List ℕ → Option (List ℕ)
behind_prefix prefix text = if starts_with nat_eq text prefix then Some (drop (length prefix) text) else None

-- the lines behind `file:`
abbrev pub patterns_in : List ℕ → Option (List (List ℕ))
patterns_in url = option_map lines (behind_prefix (codes "file:") url)

-- ---- stars

-- what stands behind the first such byte, where there is one
abbrev pub behind : ℕ → List ℕ → Option (List ℕ)
behind at [] = None
behind at (b ∷ bs) = if b == at then Some bs else behind at bs

-- it begins with what stands before the star and ends with what stands behind, and the two do not overlap
abbrev pub is_between : List ℕ → List ℕ → List ℕ → Bool
is_between head tail path = nat_le (length head + length tail) (length path) && (starts_with nat_eq path head && ends_with nat_eq path tail)

-- ---- folders

-- all up to the last slash, with it: the rest has none, and nothing stands before it where there is no slash
pub record IsFolder (path folder : List ℕ) : Type 0 where
  pub rest : List ℕ
  pub whole : path ≡ folder ++ rest
  pub last : All (λ b. b ≢ 47) rest
  pub slash : (folder ≡ []) ⊎ ((parts : List ℕ) × (folder ≡ parts ++ 47 ∷ []))

-- without the folder `.` in front
abbrev pub without_dot : List ℕ → List ℕ
without_dot path = if starts_with nat_eq path (codes "./") then drop 2 path else path

-- a path of a configuration in this folder: one that begins with a slash stays as it is
abbrev pub placed_in : List ℕ → List ℕ → List ℕ
placed_in folder path = if starts_with nat_eq path (codes "/") then path else without_dot folder ++ without_dot path

-- ---- what is no path and no pattern

abbrev pub ends_so : List ℕ → List ℕ → Bool
ends_so text end = ends_with nat_eq text end

abbrev pub is_yaml : List ℕ → Bool
is_yaml text = (ends_so text (codes ".yml") || ends_so text (codes ".yaml")) || (ends_so text (codes ".YML") || ends_so text (codes ".YAML"))

abbrev pub is_json : List ℕ → Bool
is_json text = ends_so text (codes ".json") || ends_so text (codes ".JSON")

abbrev pub is_control : ℕ → Bool
is_control b = nat_lt b 32 || b == 127

-- a question mark, a bracket or a backslash
abbrev pub is_sign : ℕ → Bool
is_sign b = (b == 63 || b == 91) || b == 92

-- a star or a slash
abbrev pub is_late : ℕ → Bool
is_late b = b == 42 || b == 47

abbrev pub has_stray_star : List ℕ → Bool
has_stray_star text = option_map_or (list_any is_late) (behind 42 text) false

abbrev pub fault_said : List ℕ → Option PatternFault
fault_said text =
    if list_any is_control text then Some Control
    else (if is_yaml text then Some Yaml
    else (if not (is_json text) then Some NoJson
    else (if list_any is_sign text then Some Sign
    else (if has_stray_star text then Some Star else None))))
