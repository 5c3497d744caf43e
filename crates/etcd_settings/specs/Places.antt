-- Where a journal in etcd is: `etcd://`, hosts with ports and commas between them, a slash, and names with slashes between them. Every other text is a file.
use Rattle.std.specs.Prelude.{ℕ, ◌==◌, Bool, List, length, drop, nat_eq, Option, Some, None, is_some, Result, Ok, Err, codes, if◌then◌else◌}
use Rattle.std.specs.List.{starts_with, before_first, after_first, slice_split, list_all}
use Rattle.service_settings.specs.Acknowledge.{is_host_and_port}
use Rattle.etcd_settings.specs.declared.error.SettingsError.{SettingsError}
use Rattle.etcd_settings.specs.declared.error.SettingsError.TheVariants.{Shape}
use Rattle.etcd_settings.specs.declared.error.Member.TheVariants as part
use Rattle.etcd_settings.specs.declared.place.Place.{Place}
use Rattle.etcd_settings.specs.declared.place.TheConstants.{SCHEME}
use Rattle.etcd_settings.specs.Reading.{◌>>=◌, is_filled}

-- what stands behind the prefix, where the text begins with it
abbrev pub behind : List ℕ → List ℕ → Option (List ℕ)
behind prefix text = if starts_with nat_eq text prefix then Some (drop (length prefix) text) else None

abbrev pub behind_scheme : List ℕ → Option (List ℕ)
behind_scheme text = behind (codes "etcd://") text

abbrev pub is_in_etcd : List ℕ → Bool
is_in_etcd text = is_some (behind_scheme text)

abbrev pub endpoints_said : List ℕ → Result (List (List ℕ)) SettingsError
endpoints_said hosts =
    if list_all is_host_and_port (slice_split (λ b. b == 44) hosts) then Ok (slice_split (λ b. b == 44) hosts) else Err (Shape part.Endpoints)

abbrev pub prefix_said : List ℕ → Result (List ℕ) SettingsError
prefix_said prefix = if list_all is_filled (slice_split (λ b. b == 47) prefix) then Ok prefix else Err (Shape part.Prefix)

-- of what stands behind `etcd://`
abbrev pub place_said : List ℕ → Result Place SettingsError
place_said text =
    endpoints_said (before_first (λ b. b == 47) text) >>= λ endpoints.
    prefix_said (after_first (λ b. b == 47) text) >>= λ prefix.
    Ok (record { endpoints = endpoints; prefix = prefix })

abbrev pub place_or_file : Option (List ℕ) → Result (Option Place) SettingsError
place_or_file None = Ok None
place_or_file (Some text) = place_said text >>= λ place. Ok (Some place)

-- nothing, where it is a file
abbrev pub journal_said : List ℕ → Result (Option Place) SettingsError
journal_said journal = place_or_file (behind_scheme journal)
