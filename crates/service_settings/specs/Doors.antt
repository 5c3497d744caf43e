-- Who may ask the service: members of `allocator`.
use Rattle.std.specs.Prelude.{ℕ, ◌==◌, nat_le, List, [], ◌∷◌, Bool, false, ◌&&◌, ◌||◌, Option, Some, None, Result, Ok, codes, if◌then◌else◌}
use Rattle.std.specs.List.{list_all}
use Rattle.std.specs.Option.{ok_or}
use Rattle.serde_json.specs.Data.{Data}
use Rattle.serde_json.specs.Find.{as_bool, as_str}
use Rattle.service_settings.specs.declared.error.SettingsError.{SettingsError}
use Rattle.service_settings.specs.declared.error.SettingsError.TheVariants.{Shape}
use Rattle.service_settings.specs.declared.error.Member.TheVariants as part
use Rattle.service_settings.specs.declared.settings.doors.Doors.{Doors}
use Rattle.service_settings.specs.declared.settings.members.Kind.TheVariants as kind
use Rattle.service_settings.specs.Members.{known_said}
use Rattle.service_settings.specs.Reading.{◌>>=◌, member_at, said_or, said_or_none, items_said, each_from}

-- a small letter, a digit, a dot or a hyphen
abbrev pub is_host_byte : ℕ → Bool
is_host_byte b = (nat_le 97 b && nat_le b 122) || ((nat_le 48 b && nat_le b 57) || ((b == 46) || (b == 45)))

abbrev pub is_host_name : List ℕ → Bool
is_host_name [] = false
is_host_name (b ∷ bs) = list_all is_host_byte (b ∷ bs)

abbrev pub host_named : Option (List ℕ) → Option (List ℕ)
host_named None = None
host_named (Some name) = if is_host_name name then Some name else None

abbrev pub host_said : ℕ → Data → Result (List ℕ) SettingsError
host_said index d = ok_or (host_named (as_str d)) (Shape (part.Host index))

abbrev pub hosts_said : Option Data → Result (List (List ℕ)) SettingsError
hosts_said found = items_said part.Hosts found >>= each_from host_said 0

unfoldable pub doors_said : Option Data → Result Doors SettingsError
doors_said allocator =
    hosts_said (member_at (codes "hosts") allocator) >>= λ hosts.
    known_said kind.Tokens part.Tokens (member_at (codes "tokens") allocator) >>= λ tokens.
    said_or_none as_str part.AdminTokens (member_at (codes "admin") tokens) >>= λ admin_tokens.
    said_or_none as_str part.CollectorTokens (member_at (codes "collectors") tokens) >>= λ collector_tokens.
    said_or false as_bool part.OpenToAll (member_at (codes "open_to_all") allocator) >>= λ open_to_all.
    Ok (record { hosts = hosts; admin_tokens = admin_tokens; collector_tokens = collector_tokens; open_to_all = open_to_all })
