-- After how long without a word a collector counts as gone.
use Rattle.std.specs.Prelude.{Option, Some, Result, option_map, if◌then◌else◌}
use Rattle.serde_json.specs.Data.{Data}
use Rattle.service_settings.specs.declared.error.SettingsError.{SettingsError}
use Rattle.service_settings.specs.declared.error.Member.TheVariants as part
use Rattle.service_settings.specs.declared.settings.collector_timeout.CollectorTimeout.{CollectorTimeout}
use Rattle.service_settings.specs.declared.settings.collector_timeout.CollectorTimeout.TheVariants.{Adaptive, After, Never}
use Rattle.service_settings.specs.Reading.{time_in, is_never, said_or}

-- never, or a duration above 0
abbrev pub timeout_of : Data → Option CollectorTimeout
timeout_of d = if is_never d then Some Never else option_map (λ millis. After millis) (time_in d)

-- by what the collector showed, where it is left out
abbrev pub collector_timeout_said : Option Data → Result CollectorTimeout SettingsError
collector_timeout_said found = said_or Adaptive timeout_of part.CollectorTimeout found
