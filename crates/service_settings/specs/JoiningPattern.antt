-- The patterns of the names of collectors that join when they ask: a list of objects, each with what they join with.
use Rattle.std.specs.Prelude.{◌≡◌, ℕ, ◌==◌, List, [], ◌∷◌, length, nat_lt, nat_le, Bool, true, false, ◌&&◌, ◌||◌, Option, Some, None, option_and_then, Result, Ok, codes, if◌then◌else◌}
use Rattle.std.specs.Option.{ok_or}
use Rattle.std.specs.Str.{bytes_eq, chars}
use Rattle.serde_json.specs.Data.{Data}
use Rattle.serde_json.specs.Find.{get, as_str}
use Rattle.json_values.specs.Spelling.{member_in}
use Rattle.reach_rules.specs.Spelling.{reach_in}
use Rattle.service_settings.specs.declared.error.SettingsError.{SettingsError}
use Rattle.service_settings.specs.declared.error.SettingsError.TheVariants.{Shape}
use Rattle.service_settings.specs.declared.error.Member.TheVariants as part
use Rattle.service_settings.specs.declared.matching.Outcome.{Outcome}
use Rattle.service_settings.specs.declared.matching.Outcome.TheVariants.{Matches, Fails, FailsBehind}
use Rattle.service_settings.specs.declared.settings.joining_pattern.JoiningPattern.{JoiningPattern}
use Rattle.service_settings.specs.declared.settings.joining_pattern.TheConstants.{LONGEST_PATTERN}
use Rattle.service_settings.specs.declared.settings.members.Kind.TheVariants as kind
use Rattle.service_settings.specs.Collectors.{limits_or_none}
use Rattle.service_settings.specs.Members.{members_said}
use Rattle.service_settings.specs.Reading.{◌>>=◌, items_said, each_from}

-- ---- which names match: each star stands for any bytes, also none, and every other byte for itself

-- the name, or an end of it, is so
abbrev pub is_an_end : (List ℕ → Bool) → List ℕ → Bool
is_an_end is [] = is []
is_an_end is (b ∷ bs) = is (b ∷ bs) || is_an_end is bs

-- the name begins with this byte, and what stands behind it is so
abbrev pub is_behind : ℕ → (List ℕ → Bool) → List ℕ → Bool
is_behind p is [] = false
is_behind p is (b ∷ bs) = (p == b) && is bs

-- what stands behind a star matches an end of the name: the star stands for no byte, or for one and again itself
abbrev pub matches : List ℕ → List ℕ → Bool
matches [] name = bytes_eq name []
matches (p ∷ ps) name = if p == 42 then is_an_end (matches ps) name else is_behind p (matches ps) name

-- what an outcome says of a pattern and a name
abbrev pub Tells : List ℕ → List ℕ → Outcome → Type 0
Tells pattern name Matches = matches pattern name ≡ true
Tells pattern name Fails = matches pattern name ≡ false
Tells pattern name FailsBehind = is_an_end (matches pattern) name ≡ false

-- ---- the members

-- not empty, and not too long
abbrev pub is_pattern : List ℕ → Bool
is_pattern text = nat_lt 0 (length (chars text)) && nat_le (length (chars text)) LONGEST_PATTERN

abbrev pub pattern_of : List ℕ → Option (List ℕ)
pattern_of text = if is_pattern text then Some text else None

-- the text of a pattern
abbrev pub pattern_text : Data → Option (List ℕ)
pattern_text d = option_and_then pattern_of (as_str d)

-- the pattern that an object has
abbrev pub pattern_in : Data → Option (List ℕ)
pattern_in d = member_in pattern_text (codes "pattern") d

unfoldable pub joining_pattern_said : ℕ → Data → Result JoiningPattern SettingsError
joining_pattern_said index d =
    members_said kind.JoiningPattern (part.JoiningPattern index) d >>= λ known.
    ok_or (pattern_in d) (Shape (part.Pattern index)) >>= λ pattern.
    ok_or (member_in reach_in (codes "reach") d) (Shape (part.PatternReach index)) >>= λ reach.
    ok_or (limits_or_none (get (codes "limits") d)) (Shape (part.PatternLimits index)) >>= λ limits.
    Ok (record { pattern = pattern; reach = reach; limits = limits })

abbrev pub join_by_asking_said : Option Data → Result (List JoiningPattern) SettingsError
join_by_asking_said found = items_said part.JoinByAsking found >>= each_from joining_pattern_said 0
