-- How even the targets of a job are made: `off`, or a slack of its own.
use Rattle.std.specs.Prelude.{ℕ, List, Bool, false, Option, Some, Result, codes, option_map, if◌then◌else◌}
use Rattle.std.specs.Option.{option_map_or}
use Rattle.std.specs.Str.{bytes_eq}
use Rattle.serde_json.specs.Data.{Data}
use Rattle.serde_json.specs.Find.{get, as_str}
use Rattle.service_settings.specs.declared.error.SettingsError.{SettingsError}
use Rattle.service_settings.specs.declared.error.Member.TheVariants as part
use Rattle.service_settings.specs.declared.settings.job_spread.JobSpread.{JobSpread}
use Rattle.service_settings.specs.declared.settings.job_spread.JobSpread.TheVariants.{Together, Alone, Off}
use Rattle.service_settings.specs.Reading.{◌>>=◌, said_or, items_said, each_from}
use Rattle.service_settings.specs.Spread.{slack_in}

abbrev pub is_off : Data → Bool
is_off d = option_map_or (λ text. bytes_eq text (codes "off")) (as_str d) false

-- not at all, or by themselves with this slack
abbrev pub job_spread_of : Data → Option JobSpread
job_spread_of d = if is_off d then Some Off else option_map (λ slack. Alone slack) (slack_in d)

-- with the other jobs, where it is left out
abbrev pub job_spread_said : ℕ → Data → Result JobSpread SettingsError
job_spread_said job d = said_or Together job_spread_of (part.JobSpread job) (get (codes "spread") d)

-- of each job, in order
abbrev pub spreads_said : Data → Result (List JobSpread) SettingsError
spreads_said d = items_said part.ScrapeConfigs (get (codes "scrape_configs") d) >>= each_from job_spread_said 0
