-- Reading the members of a document: what they say, or the first fault.
use Rattle.std.specs.Prelude.{◌≡◌, ◌≢◌, ℕ, ◌+◌, List, [], ◌∷◌, nat_lt, nat_le, ◌&&◌, Bool, false, Option, Some, None, option_and_then, Result, Ok, Err, is_some, codes, if◌then◌else◌}
use Rattle.std.specs.Option.{ok_or, option_map_or}
use Rattle.std.specs.Str.{bytes_eq}
use Rattle.serde_json.specs.Data.{Data, Items, no_items, item}
use Rattle.serde_json.specs.Find.{get, as_str, as_array, as_object}
use Rattle.json_values.specs.Texts.{json_of}
use Rattle.json_values.specs.Spelling.{number_in}
use Rattle.service_settings.specs.declared.address.Address.{Address}
use Rattle.service_settings.specs.declared.error.SettingsError.{SettingsError}
use Rattle.service_settings.specs.declared.error.SettingsError.TheVariants.{NotJson, Shape, Memory}
use Rattle.service_settings.specs.declared.error.Member.{Member}
use Rattle.service_settings.specs.declared.reading.TheConstants.{LEAST_CONNECTIONS, MOST_CONNECTIONS, MOST_REPORT_ROUNDS}
use Rattle.service_settings.specs.Addresses.{address_said}
use Rattle.service_settings.specs.Durations.{duration_said}

-- one after the other, up to the first fault
infixl 10 ◌>>=◌
abbrev pub ◌>>=◌ : {A B : Type 0} → Result A SettingsError → (A → Result B SettingsError) → Result B SettingsError
(Ok x) >>= f = f x
(Err e) >>= f = Err e

-- What is returned, seen by the view, is what is said, unless memory ran out.
abbrev pub Gives : {X Y : Type 0} → (X → Y) → Result X SettingsError → Result Y SettingsError → Type 0
Gives view (Ok x) said = said ≡ Ok (view x)
Gives view (Err e) said = e ≢ Memory → said ≡ Err e

-- the value of a JSON text
abbrev pub json_said : List ℕ → Result Data SettingsError
json_said bytes = ok_or (json_of bytes) NotJson

-- the member of a name, where what it is a member of is there
abbrev pub member_at : List ℕ → Option Data → Option Data
member_at name found = option_and_then (get name) found

-- ---- what a value says

abbrev pub duration_in : Data → Option ℕ
duration_in d = option_and_then duration_said (as_str d)

abbrev pub above_zero : ℕ → Option ℕ
above_zero n = if nat_lt 0 n then Some n else None

-- a duration above 0
abbrev pub time_in : Data → Option ℕ
time_in d = option_and_then above_zero (duration_in d)

abbrev pub is_never : Data → Bool
is_never d = option_map_or (λ text. bytes_eq text (codes "never")) (as_str d) false

-- how many connections there may be at once
abbrev pub enough : ℕ → Option ℕ
enough n = if nat_le LEAST_CONNECTIONS n && nat_le n MOST_CONNECTIONS then Some n else None

abbrev pub connections_in : Data → Option ℕ
connections_in d = option_and_then enough (number_in d)

-- of how many of the last rounds a report is booked
abbrev pub some_rounds : ℕ → Option ℕ
some_rounds n = if nat_le 1 n && nat_le n MOST_REPORT_ROUNDS then Some n else None

abbrev pub report_rounds_in : Data → Option ℕ
report_rounds_in d = option_and_then some_rounds (number_in d)

abbrev pub address_in : Data → Option Address
address_in d = option_and_then address_said (as_str d)

-- ---- what a member says

-- the default where it is left out
abbrev pub said_or : {A : Type 0} → A → (Data → Option A) → Member → Option Data → Result A SettingsError
said_or default what part None = Ok default
said_or default what part (Some d) = ok_or (what d) (Shape part)

-- nothing where it is left out
abbrev pub said_or_none : {A : Type 0} → (Data → Option A) → Member → Option Data → Result (Option A) SettingsError
said_or_none what part None = Ok None
said_or_none what part (Some d) = ok_or (what d) (Shape part) >>= λ x. Ok (Some x)

-- an object, or nothing
abbrev pub object_said : Member → Option Data → Result (Option Data) SettingsError
object_said part None = Ok None
object_said part (Some d) = if is_some (as_object d) then Ok (Some d) else Err (Shape part)

-- the items of a list, none where it is left out
abbrev pub items_said : Member → Option Data → Result Items SettingsError
items_said part None = Ok no_items
items_said part (Some d) = ok_or (as_array d) (Shape part)

-- what each of the items says, the first of which has this index
abbrev pub each_from : {A : Type 0} → (ℕ → Data → Result A SettingsError) → ℕ → Items → Result (List A) SettingsError
each_from what index no_items = Ok []
each_from what index (item d ds) = what index d >>= λ x. each_from what (index + 1) ds >>= λ xs. Ok (x ∷ xs)
