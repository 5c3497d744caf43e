-- When another reach of a collector is taken.
use Rattle.std.specs.Prelude.{ℕ, List, Option, Some, None, Result, Ok, codes, option_and_then, if◌then◌else◌}
use Rattle.std.specs.Option.{ok_or}
use Rattle.std.specs.Str.{bytes_eq}
use Rattle.serde_json.specs.Data.{Data}
use Rattle.serde_json.specs.Find.{as_str}
use Rattle.service_settings.specs.declared.error.SettingsError.{SettingsError}
use Rattle.service_settings.specs.declared.error.SettingsError.TheVariants.{Shape}
use Rattle.service_settings.specs.declared.error.Member.TheVariants as part
use Rattle.service_settings.specs.declared.settings.reach_changes.ReachChanges.{ReachChanges}
use Rattle.service_settings.specs.declared.settings.reach_changes.ReachChanges.TheVariants.{Drained, Now}

abbrev pub reach_changes_named : List ℕ → Option ReachChanges
reach_changes_named name = if bytes_eq name (codes "drained") then Some Drained else (if bytes_eq name (codes "now") then Some Now else None)

-- once the collector is drained, where it is left out
abbrev pub reach_changes_said : Option Data → Result ReachChanges SettingsError
reach_changes_said None = Ok Drained
reach_changes_said (Some d) = ok_or (option_and_then reach_changes_named (as_str d)) (Shape part.ReachChanges)
