-- The settings of a journal in etcd: of the journal that is given, or else of that of the members.
use Rattle.std.specs.Prelude.{ℕ, List, Option, Some, None, Result, Ok, Err, is_some, unwrap_or, if◌then◌else◌}
use Rattle.etcd_settings.specs.declared.error.SettingsError.{SettingsError}
use Rattle.etcd_settings.specs.declared.error.SettingsError.TheVariants.{NotInEtcd}
use Rattle.etcd_settings.specs.declared.error.Member.TheVariants as part
use Rattle.etcd_settings.specs.declared.place.Place.{Place}
use Rattle.etcd_settings.specs.declared.members.Members.{Members}
use Rattle.etcd_settings.specs.declared.members.User.{User}
use Rattle.etcd_settings.specs.declared.settings.Settings.{Settings}
use Rattle.etcd_settings.specs.declared.settings.TheConstants.{DEFAULT_LEASE}
use Rattle.etcd_settings.specs.Reading.{◌>>=◌}
use Rattle.etcd_settings.specs.Places.{journal_said}

abbrev pub settings_at : Place → Option (List ℕ) → Option ℕ → Option User → Settings
settings_at place advertise lease user = record { place = place; advertise = advertise; lease = unwrap_or lease DEFAULT_LEASE; user = user }

-- the first member that is for nothing
abbrev pub without : Option (List ℕ) → Option ℕ → Option User → Result (Option Settings) SettingsError
without advertise lease user =
    if is_some advertise then Err (NotInEtcd part.Advertise) else (
    if is_some lease then Err (NotInEtcd part.Lease) else (
    if is_some user then Err (NotInEtcd part.User) else Ok None))

abbrev pub place_given : Option Place → Option (List ℕ) → Result (Option Place) SettingsError
place_given journal None = Ok journal
place_given journal (Some text) = journal_said text

abbrev pub settings_over : Members → Option Place → Result (Option Settings) SettingsError
settings_over members None = without members.advertise members.lease members.user
settings_over members (Some place) = Ok (Some (settings_at place members.advertise members.lease members.user))

abbrev pub settings_said : Members → Option (List ℕ) → Result (Option Settings) SettingsError
settings_said members given = place_given members.journal given >>= settings_over members
