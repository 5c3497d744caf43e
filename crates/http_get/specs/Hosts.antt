-- Names of hosts (RFC 1123, section 2.1; RFC 1035, section 2.3.4): labels of letters, digits and hyphens with dots between them.
use Rattle.std.specs.Prelude.{◌≡◌, ℕ, ◌+◌, ◌==◌, List, [], ◌∷◌, length, nat_lt, nat_le, Bool, not, ◌&&◌, ◌||◌, IsTrue, if◌then◌else◌}
use Rattle.std.specs.Char.{is_ascii_alphanumeric, is_ascii_digit}
use Rattle.std.specs.List.{before_first, list_all}
use Rattle.http_get.specs.declared.host.TheConstants.{LONGEST_NAME, LONGEST_LABEL}
use Rattle.http_get.specs.Addresses.{behind_colon, IsPort}

-- a label of so many bytes, the last of which is this, may end: it is not empty, not too long, and its last byte is no hyphen
abbrev pub may_end : ℕ → ℕ → Bool
may_end long last = nat_lt 0 long && (nat_le long LONGEST_LABEL && not (last == 45))

-- this byte may stand behind so many bytes of a label: a letter, a digit, or a hyphen that is not the first
abbrev pub may_follow : ℕ → ℕ → Bool
may_follow long b = is_ascii_alphanumeric b || (b == 45 && nat_lt 0 long)

-- what is left of a name goes on with a label of so many bytes, the last of which is this
abbrev pub are_labels : ℕ → ℕ → List ℕ → Bool
are_labels long last [] = may_end long last
are_labels long last (b ∷ bs) = if b == 46 then (may_end long last && are_labels 0 b bs) else (may_follow long b && are_labels (long + 1) b bs)

abbrev pub is_digit_or_dot : ℕ → Bool
is_digit_or_dot b = is_ascii_digit b || b == 46

-- What has no letter and no hyphen is an address or nothing.
abbrev pub is_host_name : List ℕ → Bool
is_host_name name = nat_le (length name) LONGEST_NAME && (are_labels 0 46 name && not (list_all is_digit_or_dot name))

-- the text has the name before its first colon, and the port behind it, or none and it is that of HTTP
pub record IsNamed (text name : List ℕ) (port : ℕ) : Type 0 where
  pub front : name ≡ before_first (λ b. b == 58) text
  pub host : IsTrue (is_host_name name)
  pub numbered : IsPort (behind_colon text) port
