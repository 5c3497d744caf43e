-- The URL of an instance, behind which a path is written.
use Rattle.std.specs.Prelude.{ℕ, ◌==◌, ◌&&◌, ◌||◌, Bool, not, List, nat_le, nat_eq, Option, Some, None, option_and_then, Result, codes, if◌then◌else◌}
use Rattle.std.specs.List.{starts_with, ends_with, list_all}
use Rattle.serde_json.specs.Data.{Data}
use Rattle.serde_json.specs.Find.{as_str}
use Rattle.etcd_settings.specs.declared.error.SettingsError.{SettingsError}
use Rattle.etcd_settings.specs.declared.error.Member.TheVariants as part
use Rattle.etcd_settings.specs.Reading.{said_or_none}

-- a letter, a digit, or one of - . / : _ ~ % [ ]
abbrev pub is_url_byte : ℕ → Bool
is_url_byte b =
    (nat_le 97 b && nat_le b 122) || ((nat_le 65 b && nat_le b 90) || ((nat_le 45 b && nat_le b 58) || ((b == 95) || ((b == 126) || ((b == 37) || ((b == 91) || (b == 93)))))))

abbrev pub is_url : List ℕ → Bool
is_url text =
    (starts_with nat_eq text (codes "http://") || starts_with nat_eq text (codes "https://")) && (not (ends_with nat_eq text (codes "/")) && list_all is_url_byte text)

abbrev pub url_of : List ℕ → Option (List ℕ)
url_of text = if is_url text then Some text else None

abbrev pub url_in : Data → Option (List ℕ)
url_in d = option_and_then url_of (as_str d)

abbrev pub url_said : Option Data → Result (Option (List ℕ)) SettingsError
url_said found = said_or_none url_in part.Advertise found
