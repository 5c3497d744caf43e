-- Reading the members of a document: what they say, or the first fault.
use Rattle.std.specs.Prelude.{◌≡◌, ◌≢◌, ℕ, ◌&&◌, Bool, List, nat_le, nat_lt, length, Option, Some, None, option_and_then, Result, Ok, Err, if◌then◌else◌}
use Rattle.std.specs.Option.{ok_or}
use Rattle.serde_json.specs.Data.{Data}
use Rattle.serde_json.specs.Find.{as_str}
use Rattle.json_values.specs.Texts.{json_of}
use Rattle.service_settings.specs.Durations.{duration_said}
use Rattle.etcd_settings.specs.declared.error.SettingsError.{SettingsError}
use Rattle.etcd_settings.specs.declared.error.SettingsError.TheVariants.{NotJson, Shape, Memory}
use Rattle.etcd_settings.specs.declared.error.Member.{Member}
use Rattle.etcd_settings.specs.declared.error.Member.TheVariants as part
use Rattle.etcd_settings.specs.declared.settings.TheConstants.{SHORTEST_LEASE, LONGEST_LEASE}

-- one after the other, up to the first fault
infixl 10 ◌>>=◌
abbrev pub ◌>>=◌ : {A B : Type 0} → Result A SettingsError → (A → Result B SettingsError) → Result B SettingsError
(Ok x) >>= f = f x
(Err e) >>= f = Err e

-- What is returned, seen by the view, is what is said, unless memory ran out.
abbrev pub Gives : {X Y : Type 0} → (X → Y) → Result X SettingsError → Result Y SettingsError → Type 0
Gives view (Ok x) said = said ≡ Ok (view x)
Gives view (Err e) said = e ≢ Memory → said ≡ Err e

-- the value of a JSON text
abbrev pub json_said : List ℕ → Result Data SettingsError
json_said bytes = ok_or (json_of bytes) NotJson

-- ---- what a value says

abbrev pub is_filled : List ℕ → Bool
is_filled text = nat_lt 0 (length text)

abbrev pub filled : List ℕ → Option (List ℕ)
filled text = if is_filled text then Some text else None

-- a text that is not empty
abbrev pub filled_in : Data → Option (List ℕ)
filled_in d = option_and_then filled (as_str d)

abbrev pub within_a_lease : ℕ → Option ℕ
within_a_lease millis = if nat_le SHORTEST_LEASE millis && nat_le millis LONGEST_LEASE then Some millis else None

-- a duration that a lease may have, in milliseconds
abbrev pub lease_in : Data → Option ℕ
lease_in d = option_and_then (λ text. option_and_then within_a_lease (duration_said text)) (as_str d)

-- ---- what a member says: nothing where it is left out

abbrev pub said_or_none : {A : Type 0} → (Data → Option A) → Member → Option Data → Result (Option A) SettingsError
said_or_none what part None = Ok None
said_or_none what part (Some d) = ok_or (what d) (Shape part) >>= λ x. Ok (Some x)

abbrev pub text_said : Member → Option Data → Result (Option (List ℕ)) SettingsError
text_said member found = said_or_none filled_in member found

abbrev pub lease_said : Option Data → Result (Option ℕ) SettingsError
lease_said found = said_or_none lease_in part.Lease found
