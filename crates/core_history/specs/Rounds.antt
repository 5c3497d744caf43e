-- Of how many of the last rounds a report is booked, as the member `report_rounds` of a first line: a whole number from 1 to 64, and 1 where
-- it is left out.
use Rattle.std.specs.Prelude.{ℕ, Option, Some, None, option_and_then, codes}
use Rattle.serde_json.specs.Data.{Data}
use Rattle.serde_json.specs.Find.{get}
use Rattle.json_values.specs.Spelling.{number_in}
use Rattle.allocation_core.specs.State.{counted}

-- 1 where nothing is said
abbrev pub rounds_or_one : Option Data → Option ℕ
rounds_or_one None = Some 1
rounds_or_one (Some d) = option_and_then counted (number_in d)

-- what a document says
abbrev pub report_rounds_in : Data → Option ℕ
report_rounds_in d = rounds_or_one (get (codes "report_rounds") d)
