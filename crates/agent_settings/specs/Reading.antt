-- Reading the members of a document: what they say, or the first fault.
use Rattle.std.specs.Prelude.{◌≡◌, ◌≢◌, ℕ, ◌==◌, ◌&&◌, Bool, false, List, [], ◌∷◌, nat_lt, nat_eq, length, Option, Some, None, option_and_then, Result, Ok, Err, codes, if◌then◌else◌}
use Rattle.std.specs.List.{starts_with}
use Rattle.std.specs.Option.{ok_or}
use Rattle.serde_json.specs.Data.{Data}
use Rattle.serde_json.specs.Find.{as_str}
use Rattle.json_values.specs.Texts.{json_of}
use Rattle.service_settings.specs.declared.address.Address.{Address}
use Rattle.service_settings.specs.Addresses.{address_said}
use Rattle.service_settings.specs.Durations.{duration_said}
use Rattle.agent_settings.specs.declared.error.SettingsError.{SettingsError}
use Rattle.agent_settings.specs.declared.error.SettingsError.TheVariants.{NotJson, Shape, Memory}
use Rattle.agent_settings.specs.declared.error.Member.{Member}

-- one after the other, up to the first fault
infixl 10 ◌>>=◌
abbrev pub ◌>>=◌ : {A B : Type 0} → Result A SettingsError → (A → Result B SettingsError) → Result B SettingsError
(Ok x) >>= f = f x
(Err e) >>= f = Err e

-- What is returned, seen by the view, is what is said, unless memory ran out.
abbrev pub Gives : {X Y : Type 0} → (X → Y) → Result X SettingsError → Result Y SettingsError → Type 0
Gives view (Ok x) said = said ≡ Ok (view x)
Gives view (Err e) said = e ≢ Memory → said ≡ Err e

-- the value of a JSON text
abbrev pub json_said : List ℕ → Result Data SettingsError
json_said bytes = ok_or (json_of bytes) NotJson

-- ---- what a value says

abbrev pub filled : List ℕ → Option (List ℕ)
filled text = if nat_lt 0 (length text) then Some text else None

-- a text that is not empty
abbrev pub filled_in : Option Data → Option (List ℕ)
filled_in found = option_and_then (λ d. option_and_then filled (as_str d)) found

abbrev pub url_text : List ℕ → Option (List ℕ)
url_text text = if starts_with nat_eq text (codes "http://") && nat_lt 7 (length text) then Some text else None

-- a URL of HTTP
abbrev pub url_in : Option Data → Option (List ℕ)
url_in found = option_and_then (λ d. option_and_then url_text (as_str d)) found

abbrev pub is_loop : List ℕ → Bool
is_loop [] = false
is_loop (b ∷ bs) = b == 127

abbrev pub loopback : Address → Option Address
loopback address = if is_loop address.octets then Some address else None

-- an address that only this machine reaches
abbrev pub loopback_in : Data → Option Address
loopback_in d = option_and_then (λ text. option_and_then loopback (address_said text)) (as_str d)

abbrev pub above_zero : ℕ → Option ℕ
above_zero n = if nat_lt 0 n then Some n else None

-- a duration above 0
abbrev pub time_in : Data → Option ℕ
time_in d = option_and_then (λ text. option_and_then above_zero (duration_said text)) (as_str d)

-- ---- what a member says

abbrev pub text_said : Member → Option Data → Result (List ℕ) SettingsError
text_said part found = ok_or (filled_in found) (Shape part)

abbrev pub url_said : Member → Option Data → Result (List ℕ) SettingsError
url_said part found = ok_or (url_in found) (Shape part)

-- nothing where it is left out
abbrev pub path_said : Member → Option Data → Result (Option (List ℕ)) SettingsError
path_said part None = Ok None
path_said part (Some d) = text_said part (Some d) >>= λ path. Ok (Some path)

-- the default where it is left out
abbrev pub listen_said : Address → Member → Option Data → Result Address SettingsError
listen_said default part None = Ok default
listen_said default part (Some d) = ok_or (loopback_in d) (Shape part)

abbrev pub lease_said : Member → Option Data → Result (Option ℕ) SettingsError
lease_said part None = Ok None
lease_said part (Some d) = ok_or (time_in d) (Shape part) >>= λ time. Ok (Some time)
