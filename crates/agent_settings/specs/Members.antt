-- The members that an object may have.
use Rattle.std.specs.Prelude.{Option, Some, None, Result, Ok, Err}
use Rattle.std.specs.Option.{ok_or, option_map_or}
use Rattle.serde_json.specs.Data.{Data}
use Rattle.serde_json.specs.Find.{as_object}
use Rattle.agent_settings.specs.declared.error.SettingsError.{SettingsError}
use Rattle.agent_settings.specs.declared.error.SettingsError.TheVariants.{Shape, Unknown}
use Rattle.agent_settings.specs.declared.error.Member.{Member}
use Rattle.agent_settings.specs.declared.error.Member.TheVariants as part
use Rattle.agent_settings.specs.declared.members.Kind.{Kind}
use Rattle.agent_settings.specs.declared.members.Kind.TheVariants.{Document, Tokens, Join}
use Rattle.config_members.specs.Unknown.{unknown_in}
use Rattle.agent_settings.specs.Names.{names_of}
use Rattle.agent_settings.specs.Reading.{◌>>=◌}

abbrev pub member_of : Kind → Member
member_of Document = part.Document
member_of Tokens = part.Tokens
member_of Join = part.Join

-- an object that has no other members
unfoldable pub members_said : Kind → Data → Result Data SettingsError
members_said kind d =
    ok_or (as_object d) (Shape (member_of kind)) >>= λ members.
    option_map_or (λ name. Err (Unknown kind name)) (unknown_in (names_of kind) members) (Ok d)

-- such an object, or nothing where it is left out
abbrev pub known_said : Kind → Option Data → Result (Option Data) SettingsError
known_said kind None = Ok None
known_said kind (Some d) = members_said kind d >>= λ known. Ok (Some known)
