-- What patterns and templates mean: the crate `regex`, under its default options.
use Rattle.std.specs.Prelude.{◌≡◌, ◌<◌, ℕ, List, [], ◌++◌, All, Bool, ◌&&◌, nat_le, Option, Some, None, option_map, option_and_then, is_some, codes, if◌then◌else◌}
use Rattle.std.specs.Option.{option_map_or}
use Rattle.std.specs.Str.{chars}
use Rattle.regex.specs.Patterns.{Re, Match, find_str, slot_of, default_config}
use Rattle.regex.specs.Replace.{group_bytes}
use Rattle.regex.specs.Templates.{written_after}
use Rattle.regex_syntax.specs.Grammar.{Names, read}

-- a pattern, and the names of its groups
abbrev pub Pattern : Type 0
Pattern = Re × Names

-- what the grammar reads, which nests no deeper than the crate's limit
unfoldable pub pattern_in : List ℕ → Option Pattern
pattern_in text = option_and_then (λ (found, names). if nat_le found.depth default_config.nest_limit then Some (found.value, names) else None) (read default_config (chars text))

-- the form that matches whole texts alone
abbrev pub whole_form : List ℕ → List ℕ
whole_form text = codes "^(?:" ++ text ++ codes ")$"

-- A text is a pattern if it reads alone, and in that form. So no parenthesis of the text closes that of the form.
abbrev pub is_pattern : List ℕ → Bool
is_pattern text = is_some (pattern_in text) && is_some (pattern_in (whole_form text))

-- the match of a pattern with a whole text
unfoldable pub match_of : List ℕ → List ℕ → Option Match
match_of pattern text = option_and_then (λ whole. find_str whole.0 text 0) (pattern_in (whole_form pattern))

abbrev pub matches : List ℕ → List ℕ → Bool
matches pattern text = is_some (match_of pattern text)

-- the names of the pattern's groups, from group 0 on
unfoldable pub names_in : List ℕ → Names
names_in pattern = option_map_or (λ whole. whole.1) (pattern_in (whole_form pattern)) []

-- what a template stands for at a match of the pattern with the text
unfoldable pub expanded : List ℕ → List ℕ → List ℕ → Match → List ℕ
expanded pattern template text m = written_after (names_in pattern) (group_bytes text m) template 0

-- what is seen of a match: where it starts and ends, and where each group does
abbrev pub Seen : Type 0
Seen = ℕ × ℕ × (ℕ → Option ℕ)

abbrev pub seen : Match → Seen
seen m = (m.start, m.trace.end, slot_of m)

-- a compiled pattern finds in every text what the pattern finds
abbrev pub FindsAs : List ℕ → Re → Type 0
FindsAs pattern re = (text : List ℕ) → All (λ b. b < 256) text → option_map seen (find_str re text 0) ≡ option_map seen (match_of pattern text)
