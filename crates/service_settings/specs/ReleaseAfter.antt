-- When what a collector's list has is let go.
use Rattle.std.specs.Prelude.{Option, Some, Result, option_map, if◌then◌else◌}
use Rattle.serde_json.specs.Data.{Data}
use Rattle.service_settings.specs.declared.error.SettingsError.{SettingsError}
use Rattle.service_settings.specs.declared.error.Member.TheVariants as part
use Rattle.service_settings.specs.declared.settings.release_after.ReleaseAfter.{ReleaseAfter}
use Rattle.service_settings.specs.declared.settings.release_after.ReleaseAfter.TheVariants.{WithTimeout, After, Never}
use Rattle.service_settings.specs.Reading.{time_in, is_never, said_or}

-- never, or a duration above 0
abbrev pub release_of : Data → Option ReleaseAfter
release_of d = if is_never d then Some Never else option_map (λ millis. After millis) (time_in d)

-- as the collector's timeout, where it is left out
abbrev pub release_after_said : Option Data → Result ReleaseAfter SettingsError
release_after_said found = said_or WithTimeout release_of part.ReleaseAfter found
