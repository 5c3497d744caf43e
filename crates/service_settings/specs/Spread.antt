-- How even the collectors' loads are made: an object with a slack, and with a bound on the moves.
use Rattle.std.specs.Prelude.{ℕ, nat_le, Option, Some, None, option_and_then, Result, Ok, codes, if◌then◌else◌}
use Rattle.serde_json.specs.Data.{Data}
use Rattle.serde_json.specs.Find.{get}
use Rattle.json_values.specs.Spelling.{number_in}
use Rattle.service_settings.specs.declared.error.SettingsError.{SettingsError}
use Rattle.service_settings.specs.declared.error.Member.TheVariants as part
use Rattle.service_settings.specs.declared.settings.TheConstants.{DEFAULT_SLACK}
use Rattle.service_settings.specs.declared.settings.members.Kind.TheVariants as kind
use Rattle.service_settings.specs.declared.settings.spread.Spread.{Spread}
use Rattle.service_settings.specs.declared.settings.spread.TheConstants.{MOST_SLACK}
use Rattle.service_settings.specs.Members.{members_said}
use Rattle.service_settings.specs.Reading.{◌>>=◌, above_zero, said_or, said_or_none}

-- a whole number of percent, and not too many
abbrev pub slack_of : ℕ → Option ℕ
slack_of n = if nat_le n MOST_SLACK then Some n else None

abbrev pub slack_in : Data → Option ℕ
slack_in d = option_and_then slack_of (number_in d)

abbrev pub slack_said : ℕ → Option Data → Result ℕ SettingsError
slack_said absent found = said_or absent slack_in part.Slack found

-- a whole number above 0
abbrev pub most_moves_in : Data → Option ℕ
most_moves_in d = option_and_then above_zero (number_in d)

abbrev pub most_moves_said : Option Data → Result (Option ℕ) SettingsError
most_moves_said found = said_or_none most_moves_in part.MostMoves found

unfoldable pub spread_of : Data → Result Spread SettingsError
spread_of d =
    members_said kind.Spread part.Spread d >>= λ known.
    slack_said DEFAULT_SLACK (get (codes "slack") d) >>= λ slack.
    most_moves_said (get (codes "most_moves") d) >>= λ most_moves.
    Ok (record { slack = slack; most_moves = most_moves })

-- nothing is evened, where it is left out
abbrev pub spread_said : Option Data → Result (Option Spread) SettingsError
spread_said None = Ok None
spread_said (Some d) = spread_of d >>= λ spread. Ok (Some spread)
