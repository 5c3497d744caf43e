-- The addresses that can be listened at: `localhost` or dotted IPv4 (RFC 6943, section 3.1.1, strict form), a colon and a port.
use Rattle.std.specs.Prelude.{ℕ, ◌==◌, List, [], ◌∷◌, Bool, false, not, ◌&&◌, Option, Some, None, option_map, option_and_then, codes, if◌then◌else◌}
use Rattle.std.specs.List.{before_first}
use Rattle.std.specs.Str.{bytes_eq}
use Rattle.service_settings.specs.declared.address.Address.{Address}
use Rattle.service_settings.specs.Digits.{number_from, past_digits, begins_with_digit, up_to}
use Rattle.service_settings.specs.Texts.{behind}

-- a zero with another digit behind it
abbrev pub has_leading_zero : List ℕ → Bool
has_leading_zero [] = false
has_leading_zero (b ∷ bs) = b == 48 && begins_with_digit bs

-- a decimal number below 256 at the front, without leading zeros, and what stands behind it
abbrev pub octet_at : List ℕ → Option (ℕ × List ℕ)
octet_at text =
    if begins_with_digit text && not (has_leading_zero text) then option_map (λ octet. (octet, past_digits text)) (up_to 255 (number_from 0 text)) else None

-- the same behind a dot
abbrev pub next_octet_at : List ℕ → Option (ℕ × List ℕ)
next_octet_at [] = None
next_octet_at (b ∷ bs) = if b == 46 then octet_at bs else None

-- four such numbers with dots between them, and nothing more
unfoldable pub dotted_said : List ℕ → Option (List ℕ)
dotted_said text =
    option_and_then (λ a. option_and_then (λ b. option_and_then (λ c. option_and_then
    (λ d. if bytes_eq d.1 [] then Some (a.0 ∷ b.0 ∷ c.0 ∷ d.0 ∷ []) else None)
    (next_octet_at c.1)) (next_octet_at b.1)) (next_octet_at a.1)) (octet_at text)

-- `localhost` is 127.0.0.1
abbrev pub host_said : List ℕ → Option (List ℕ)
host_said text = if bytes_eq text (codes "localhost") then Some (127 ∷ 0 ∷ 0 ∷ 1 ∷ []) else dotted_said text

-- decimal digits, at least one, that write a number of 16 bits
abbrev pub port_said : List ℕ → Option ℕ
port_said digits = if begins_with_digit digits && bytes_eq (past_digits digits) [] then up_to 65535 (number_from 0 digits) else None

abbrev pub with_host : Option (List ℕ) → Option ℕ → Option Address
with_host None port = None
with_host (Some octets) None = None
with_host (Some octets) (Some port) = Some (record { octets = octets; port = port })

-- the host stands before the first colon, and the port behind it
unfoldable pub address_said : List ℕ → Option Address
address_said text = with_host (host_said (before_first (λ b. b == 58) text)) (option_and_then port_said (behind 58 text))
