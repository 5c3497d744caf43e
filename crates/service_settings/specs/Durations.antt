-- Durations (Prometheus's configuration documentation, `<duration>`): `0`, or one part or more, each a number and a unit. The
-- units stand in the order y, w, d, h, m, s, ms, and each at most once.
use Rattle.std.specs.Prelude.{ℕ, ◌+◌, ◌*◌, List, [], ◌∷◌, Bool, ◌&&◌, Option, Some, None, codes, if◌then◌else◌}
use Rattle.std.specs.List.{before_first}
use Rattle.std.specs.Str.{bytes_eq}
use Rattle.service_settings.specs.Digits.{is_digit, number_from, past_digits, past_word, begins_with_digit, up_to}
use Rattle.service_settings.specs.declared.duration.Unit.{Unit}
use Rattle.service_settings.specs.declared.duration.Unit.TheVariants.{Year, Week, Day, Hour, Minute, Second, Millisecond}
use Rattle.service_settings.specs.declared.duration.TheConstants.{LONGEST_DURATION, UNITS}

abbrev pub unit_name : Unit → List ℕ
unit_name Year = codes "y"
unit_name Week = codes "w"
unit_name Day = codes "d"
unit_name Hour = codes "h"
unit_name Minute = codes "m"
unit_name Second = codes "s"
unit_name Millisecond = codes "ms"

-- in milliseconds: a day has 24 hours, a week 7 days, a year 365
abbrev pub unit_length : Unit → ℕ
unit_length Year = 31536000000
unit_length Week = 604800000
unit_length Day = 86400000
unit_length Hour = 3600000
unit_length Minute = 60000
unit_length Second = 1000
unit_length Millisecond = 1

-- the text begins with a number and this unit: between the number and the next digit, or the end, stands the unit's name
abbrev pub has_part : Unit → List ℕ → Bool
has_part unit text = begins_with_digit text && bytes_eq (before_first is_digit (past_digits text)) (unit_name unit)

-- the length of that part, and what stands behind it
abbrev pub part_length : Unit → List ℕ → ℕ
part_length unit text = if has_part unit text then number_from 0 text * unit_length unit else 0

abbrev pub part_rest : Unit → List ℕ → List ℕ
part_rest unit text = if has_part unit text then past_word (past_digits text) else text

-- a length that is not too long
abbrev pub within : ℕ → Option ℕ
within length = up_to LONGEST_DURATION length

-- the sum of the parts of these units and what was summed before, where nothing else stands in the text
abbrev pub sum_from : ℕ → List Unit → List ℕ → Option ℕ
sum_from sum [] text = if bytes_eq text [] then within sum else None
sum_from sum (unit ∷ units) text = sum_from (sum + part_length unit text) units (part_rest unit text)

unfoldable pub parts_said : List ℕ → Option ℕ
parts_said text = sum_from 0 UNITS text

-- in milliseconds
unfoldable pub duration_said : List ℕ → Option ℕ
duration_said text = if bytes_eq text [] then None else (if bytes_eq text (codes "0") then Some 0 else parts_said text)
