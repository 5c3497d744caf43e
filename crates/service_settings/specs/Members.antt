-- The members that an object may have. The tables stand in `src/settings/members.rt`.
use Rattle.std.specs.Prelude.{ℕ, List, map, Option, Some, None, Result, Ok, Err}
use Rattle.std.specs.Option.{ok_or, option_map_or}
use Rattle.serde_json.specs.Data.{Data}
use Rattle.serde_json.specs.Find.{as_object}
use Rattle.service_settings.specs.declared.error.SettingsError.{SettingsError}
use Rattle.service_settings.specs.declared.error.SettingsError.TheVariants.{Shape, Unknown}
use Rattle.service_settings.specs.declared.error.Member.{Member}
use Rattle.service_settings.specs.declared.settings.members.Kind.{Kind}
use Rattle.service_settings.specs.declared.settings.members.Kind.TheVariants.{Allocator, Lifecycle, Tokens, Collector, JoiningPattern, Spread}
use Rattle.service_settings.specs.declared.settings.members.TheConstants.{ALLOCATOR, LIFECYCLE, TOKENS, COLLECTOR, JOINING_PATTERN, SPREAD}
use Rattle.config_members.specs.Unknown.{unknown_in}
use Rattle.service_settings.specs.Reading.{◌>>=◌}

abbrev pub names_of : Kind → List (List ℕ)
names_of Allocator = map (λ s. s.now) ALLOCATOR
names_of Lifecycle = map (λ s. s.now) LIFECYCLE
names_of Tokens = map (λ s. s.now) TOKENS
names_of Collector = map (λ s. s.now) COLLECTOR
names_of JoiningPattern = map (λ s. s.now) JOINING_PATTERN
names_of Spread = map (λ s. s.now) SPREAD

-- an object that has no other members
unfoldable pub members_said : Kind → Member → Data → Result Data SettingsError
members_said kind part d =
    ok_or (as_object d) (Shape part) >>= λ members.
    option_map_or (λ name. Err (Unknown part name)) (unknown_in (names_of kind) members) (Ok d)

-- such an object, or nothing where it is left out
abbrev pub known_said : Kind → Member → Option Data → Result (Option Data) SettingsError
known_said kind part None = Ok None
known_said kind part (Some d) = members_said kind part d >>= λ known. Ok (Some known)
