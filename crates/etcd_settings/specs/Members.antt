-- The members of `allocator` that a journal in etcd has.
use Rattle.std.specs.Prelude.{ℕ, List, Option, Some, None, Result, Ok, Err, codes, option_and_then}
use Rattle.serde_json.specs.Data.{Data}
use Rattle.serde_json.specs.Find.{get, as_str}
use Rattle.etcd_settings.specs.declared.error.SettingsError.{SettingsError}
use Rattle.etcd_settings.specs.declared.error.SettingsError.TheVariants.{NoPasswordFile, NoUser}
use Rattle.etcd_settings.specs.declared.error.Member.TheVariants as part
use Rattle.etcd_settings.specs.declared.place.Place.{Place}
use Rattle.etcd_settings.specs.declared.members.Members.{Members}
use Rattle.etcd_settings.specs.declared.members.User.{User}
use Rattle.service_settings.specs.Reading.{member_at}
use Rattle.etcd_settings.specs.Reading.{◌>>=◌, json_said, lease_said, text_said}
use Rattle.etcd_settings.specs.Urls.{url_said}
use Rattle.etcd_settings.specs.Places.{journal_said}

abbrev pub journal_of_text : Option (List ℕ) → Result (Option Place) SettingsError
journal_of_text None = Ok None
journal_of_text (Some text) = journal_said text

-- what is no text says nothing here
abbrev pub journal_member_said : Option Data → Result (Option Place) SettingsError
journal_member_said found = journal_of_text (option_and_then as_str found)

-- both, or neither
abbrev pub pair_said : Option (List ℕ) → Option (List ℕ) → Result (Option User) SettingsError
pair_said (Some name) (Some file) = Ok (Some (record { name = name; password_file = file }))
pair_said (Some name) None = Err NoPasswordFile
pair_said None (Some file) = Err NoUser
pair_said None None = Ok None

unfoldable pub user_said : Option Data → Result (Option User) SettingsError
user_said allocator =
    text_said part.User (member_at (codes "etcd_user") allocator) >>= λ name.
    text_said part.PasswordFile (member_at (codes "etcd_password_file") allocator) >>= λ file.
    pair_said name file

unfoldable pub members_said : Option Data → Result Members SettingsError
members_said allocator =
    journal_member_said (member_at (codes "journal") allocator) >>= λ journal.
    url_said (member_at (codes "advertise") allocator) >>= λ advertise.
    lease_said (member_at (codes "lease") allocator) >>= λ lease.
    user_said allocator >>= λ user.
    Ok (record { journal = journal; advertise = advertise; lease = lease; user = user })

-- of the document of a configuration
abbrev pub members_read : List ℕ → Result Members SettingsError
members_read bytes = json_said bytes >>= λ d. members_said (get (codes "allocator") d)
