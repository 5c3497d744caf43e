-- Who may ask for what, by the token that is shown.
use Rattle.std.specs.Prelude.{ℕ, nat_le, List, length, take, drop, Bool, true, false, ◌&&◌, ◌||◌, Option, Some, None, option_and_then, bytes_eq, codes, if◌then◌else◌}
use Rattle.std.specs.List.{list_any}
use Rattle.http_header.specs.FieldValue.{FieldValue}
use Rattle.http_header.specs.HeaderMap.{Entries, get}
use Rattle.sd_routes.specs.declared.ask.Ask.{Ask}
use Rattle.sd_routes.specs.declared.access.Access.{Access}
use Rattle.sd_routes.specs.declared.access.Access.TheVariants.{Shown, Noted, Looked, Taken, Reported, Changed}
use Rattle.sd_routes.specs.Asks.{access_of, taker_of}
use Rattle.admission.specs.declared.key.Key.{Key}
use Rattle.admission.specs.Sites.{same_letters}

-- ---- the token that is shown (RFC 6750, section 2.1)

-- what follows the scheme and a space
abbrev pub bearer : List ℕ → Option (List ℕ)
bearer value = if nat_le 7 (length value) && same_letters (take 7 value) (codes "bearer ") then Some (drop 7 value) else None

abbrev pub shown_token : Entries FieldValue → Option (List ℕ)
shown_token fields = option_and_then (λ (value : FieldValue). bearer value.bytes) (get fields (codes "authorization"))

-- ---- keys

abbrev pub same_token : List ℕ → List ℕ → Bool
same_token shown token = bytes_eq shown token

abbrev pub is_own : Option (List ℕ) → Option (List ℕ) → Bool
is_own None name = true
is_own (Some own) None = true
is_own (Some own) (Some name) = bytes_eq own name

-- for all collectors, or for the one of this name
abbrev pub is_for : Key → Option (List ℕ) → Bool
is_for key name = is_own key.collector name

abbrev pub has_key : List Key → Option (List ℕ) → List ℕ → Bool
has_key keys name token = list_any (λ (key : Key). same_token token key.token && is_for key name) keys

-- no token is needed, or the one that is shown serves for the collector of a name, or for whichever
abbrev pub holds : Option (List Key) → Option (List ℕ) → Option (List ℕ) → Bool
holds None name shown = true
holds (Some keys) name None = false
holds (Some keys) name (Some token) = has_key keys name token

-- an admin's token is shown
abbrev pub is_admin : Option (List Key) → Option (List ℕ) → Bool
is_admin (Some keys) (Some token) = has_key keys None token
is_admin _ _ = false

-- ---- who may ask for what

-- Pages and figures are for all. Who may change who collects, read the configuration again and stop the service shows an admin's token;
-- who takes or looks at the lists of the collector of a name, and reports, shows a collector's or an admin's.
abbrev pub may_by : Option (List Key) → Option (List Key) → Access → Option (List ℕ) → Option (List ℕ) → Bool
may_by admin collectors Shown name shown = true
may_by admin collectors Noted name shown = true
may_by admin collectors Looked name shown = holds collectors name shown || is_admin admin shown
may_by admin collectors Taken name shown = holds collectors name shown || is_admin admin shown
may_by admin collectors Reported name shown = holds collectors name shown || is_admin admin shown
may_by admin collectors Changed name shown = holds admin None shown

abbrev pub may_ask : Option (List Key) → Option (List Key) → Ask → Option (List ℕ) → Bool
may_ask admin collectors asked shown = may_by admin collectors (access_of asked) (taker_of asked) shown

abbrev pub is_allowed : Option (List Key) → Option (List Key) → Option Ask → Option (List ℕ) → Bool
is_allowed admin collectors None shown = true
is_allowed admin collectors (Some asked) shown = may_ask admin collectors asked shown
