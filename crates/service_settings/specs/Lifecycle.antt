-- What requests may do with the whole service: true or false for all of it, or an object with a flag for each.
use Rattle.std.specs.Prelude.{Bool, false, Option, Some, None, Result, Ok, codes}
use Rattle.std.specs.Option.{option_map_or}
use Rattle.serde_json.specs.Data.{Data}
use Rattle.serde_json.specs.Find.{get, as_bool}
use Rattle.service_settings.specs.declared.error.SettingsError.{SettingsError}
use Rattle.service_settings.specs.declared.error.Member.TheVariants as part
use Rattle.service_settings.specs.declared.settings.members.Kind.TheVariants as kind
use Rattle.service_settings.specs.declared.settings.lifecycle.Lifecycle.{Lifecycle}
use Rattle.service_settings.specs.Members.{members_said}
use Rattle.service_settings.specs.Reading.{◌>>=◌, said_or}

abbrev pub both : Bool → Lifecycle
both may = record { reload = may; quit = may }

-- an object; what is left out is not answered
unfoldable pub lifecycle_members : Data → Result Lifecycle SettingsError
lifecycle_members d =
    members_said kind.Lifecycle part.Lifecycle d >>= λ known.
    said_or false as_bool part.LifecycleReload (get (codes "reload") d) >>= λ reload.
    said_or false as_bool part.LifecycleQuit (get (codes "quit") d) >>= λ quit.
    Ok (record { reload = reload; quit = quit })

abbrev pub lifecycle_of : Data → Result Lifecycle SettingsError
lifecycle_of d = option_map_or (λ may. Ok (both may)) (as_bool d) (lifecycle_members d)

-- nothing is answered, where it is left out
abbrev pub lifecycle_said : Option Data → Result Lifecycle SettingsError
lifecycle_said None = Ok (both false)
lifecycle_said (Some d) = lifecycle_of d
