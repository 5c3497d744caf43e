-- Numbers in decimal.
use Rattle.std.specs.Prelude.{ℕ, ◌+◌, ◌-◌, ◌*◌, ◌&&◌, List, [], ◌∷◌, nat_le, Option, Some, None, if◌then◌else◌, option_and_then}
use Rattle.std.specs.Char.{is_ascii_digit}

-- the number after one more digit, where it is one and the number is at most this
abbrev pub next_of : ℕ → ℕ → ℕ → Option ℕ
next_of most value digit =
    if is_ascii_digit digit && nat_le (value * 10 + (digit - 48)) most then Some (value * 10 + (digit - 48)) else None

-- the number after some digits
abbrev pub decimal_from : ℕ → ℕ → List ℕ → Option ℕ
decimal_from most value [] = Some value
decimal_from most value (digit ∷ digits) = option_and_then (λ next. decimal_from most next digits) (next_of most value digit)

-- the number that one digit or more write, where it is at most this
abbrev pub decimal_in : ℕ → List ℕ → Option ℕ
decimal_in most [] = None
decimal_in most (digit ∷ digits) = decimal_from most 0 (digit ∷ digits)
