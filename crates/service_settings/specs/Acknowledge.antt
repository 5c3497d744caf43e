-- Where collectors reach the service: a name or an address of a host (RFC 3986, section 3.2), a colon and a port.
use Rattle.std.specs.Prelude.{ℕ, ◌==◌, ◌&&◌, List, Bool, Option, Some, None, Result, is_some, option_and_then, if◌then◌else◌}
use Rattle.std.specs.List.{before_first}
use Rattle.serde_json.specs.Data.{Data}
use Rattle.serde_json.specs.Find.{as_str}
use Rattle.service_settings.specs.declared.error.SettingsError.{SettingsError}
use Rattle.service_settings.specs.declared.error.Member.TheVariants as part
use Rattle.service_settings.specs.Addresses.{port_said}
use Rattle.service_settings.specs.Doors.{is_host_name}
use Rattle.service_settings.specs.Reading.{said_or_none}
use Rattle.service_settings.specs.Texts.{behind}

-- the host stands before the first colon, and the port behind it
abbrev pub is_host_and_port : List ℕ → Bool
is_host_and_port text = is_host_name (before_first (λ b. b == 58) text) && is_some (option_and_then port_said (behind 58 text))

abbrev pub reached_at : List ℕ → Option (List ℕ)
reached_at text = if is_host_and_port text then Some text else None

abbrev pub acknowledge_of : Data → Option (List ℕ)
acknowledge_of d = option_and_then reached_at (as_str d)

-- nowhere, where it is left out
abbrev pub acknowledge_said : Option Data → Result (Option (List ℕ)) SettingsError
acknowledge_said found = said_or_none acknowledge_of part.Acknowledge found
