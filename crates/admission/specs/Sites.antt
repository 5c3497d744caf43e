-- Under which name a service is asked, and by pages of which site.
use Rattle.std.specs.Prelude.{ℕ, ◌==◌, List, drop, nat_eq, Bool, true, false, not, ◌&&◌, ◌||◌, Option, Some, None, bytes_eq, codes, map, if◌then◌else◌}
use Rattle.std.specs.List.{before_first, list_all, list_any, starts_with}
use Rattle.std.specs.Option.{option_map_or}
use Rattle.std.specs.Char.{to_ascii_lowercase}
use Rattle.http_header.specs.FieldValue.{FieldValue}
use Rattle.http_header.specs.HeaderMap.{Entries, get, get_all}
use Rattle.sd_routes.specs.declared.ask.Ask.{Ask}
use Rattle.sd_routes.specs.declared.access.Access.{Access}
use Rattle.sd_routes.specs.declared.access.Access.TheVariants.{Shown, Noted, Looked, Taken, Reported, Changed}
use Rattle.sd_routes.specs.Asks.{access_of}

-- they differ in nothing but the case of letters
abbrev pub same_letters : List ℕ → List ℕ → Bool
same_letters one other = bytes_eq (map to_ascii_lowercase one) (map to_ascii_lowercase other)

-- ---- hosts (RFC 9110, section 7.2)

-- a host is one of these names, whatever its port
abbrev pub is_own_host : List (List ℕ) → List ℕ → Bool
is_own_host hosts host = list_any (λ own. same_letters own (before_first (λ b. b == 58) host)) hosts

abbrev pub are_own_hosts : Option (List (List ℕ)) → Entries FieldValue → Bool
are_own_hosts None fields = true
are_own_hosts (Some hosts) fields = list_all (λ (value : FieldValue). is_own_host hosts value.bytes) (get_all fields (codes "host"))

-- ---- origins (RFC 6454, section 7)

-- the host, by HTTP or behind a proxy that speaks TLS
abbrev pub is_origin_of : List ℕ → List ℕ → Bool
is_origin_of host origin =
    if starts_with nat_eq origin (codes "http://") then same_letters host (drop 7 origin)
    else (if starts_with nat_eq origin (codes "https://") then same_letters host (drop 8 origin) else false)

abbrev pub is_own_origin : Entries FieldValue → List ℕ → Bool
is_own_origin fields origin = list_any (λ (host : FieldValue). is_origin_of host.bytes origin) (get_all fields (codes "host"))

abbrev pub has_own_origin : Entries FieldValue → Bool
has_own_origin fields = list_all (λ (origin : FieldValue). is_own_origin fields origin.bytes) (get_all fields (codes "origin"))

-- ---- sites (Fetch Metadata Request Headers, section 2)

abbrev pub is_other_site : FieldValue → Bool
is_other_site site = not (bytes_eq site.bytes (codes "same-origin")) && not (bytes_eq site.bytes (codes "none"))

abbrev pub is_from_other_site : Entries FieldValue → Bool
is_from_other_site fields = option_map_or is_other_site (get fields (codes "sec-fetch-site")) false

-- ---- what may be asked from everywhere

-- nothing is changed by it, no list is taken, and none is noted as followed
abbrev pub shows : Access → Bool
shows Shown = true
shows Noted = false
shows Looked = true
shows Taken = false
shows Reported = false
shows Changed = false

abbrev pub only_shows : Ask → Bool
only_shows asked = shows (access_of asked)

-- a request that has no place shows nothing
abbrev pub is_shown : Option Ask → Bool
is_shown None = false
is_shown (Some asked) = only_shows asked

-- a page of another site asks for more than to be shown something
abbrev pub is_foreign : Option Ask → Entries FieldValue → Bool
is_foreign asked fields = not (is_shown asked) && (not (has_own_origin fields) || is_from_other_site fields)
