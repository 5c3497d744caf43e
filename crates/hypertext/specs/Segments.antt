-- How a text is written as one segment of the path of a link.
use Rattle.std.specs.Prelude.{◌≡◌, ℕ, ◌+◌, ◌-◌, ◌/◌, ◌%◌, ◌==◌, ◌||◌, ◌&&◌, nat_lt, nat_le, List, [], ◌∷◌, Bool, false, if◌then◌else◌}
use Rattle.std.specs.List.{flat_map}

abbrev pub is_between : ℕ → ℕ → ℕ → Bool
is_between low high b = nat_le low b && nat_le b high

-- an unreserved character (RFC 3986, section 2.3): a letter, a digit, or one of - . _ ~
abbrev pub is_unreserved : ℕ → Bool
is_unreserved b =
    is_between 48 57 b || (is_between 65 90 b || (is_between 97 122 b || (b == 45 || (b == 46 || (b == 95 || b == 126)))))

abbrev pub hex_digit : ℕ → ℕ
hex_digit digit = if nat_lt digit 10 then 48 + digit else 65 + (digit - 10)

abbrev pub segment_byte : ℕ → List ℕ
segment_byte b = if is_unreserved b then b ∷ [] else 37 ∷ hex_digit (b / 16) ∷ hex_digit (b % 16) ∷ []

-- each byte but the unreserved ones as % and two hexadecimal digits
abbrev pub segment : List ℕ → List ℕ
segment bytes = flat_map segment_byte bytes
