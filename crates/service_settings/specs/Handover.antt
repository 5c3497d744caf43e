-- When a list that is served may have a target that another collector's list has.
use Rattle.std.specs.Prelude.{ℕ, List, Option, Some, None, Result, Ok, codes, option_and_then, if◌then◌else◌}
use Rattle.std.specs.Option.{ok_or}
use Rattle.std.specs.Str.{bytes_eq}
use Rattle.serde_json.specs.Data.{Data}
use Rattle.serde_json.specs.Find.{as_str}
use Rattle.service_settings.specs.declared.error.SettingsError.{SettingsError}
use Rattle.service_settings.specs.declared.error.SettingsError.TheVariants.{Shape}
use Rattle.service_settings.specs.declared.error.Member.TheVariants as part
use Rattle.service_settings.specs.declared.settings.handover.Handover.{Handover}
use Rattle.service_settings.specs.declared.settings.handover.Handover.TheVariants.{Ordered, Free}

abbrev pub handover_named : List ℕ → Option Handover
handover_named name = if bytes_eq name (codes "ordered") then Some Ordered else (if bytes_eq name (codes "free") then Some Free else None)

-- ordered, where it is left out
abbrev pub handover_said : Option Data → Result Handover SettingsError
handover_said None = Ok Ordered
handover_said (Some d) = ok_or (option_and_then handover_named (as_str d)) (Shape part.Handover)
