-- Decimal digits at the front of a text.
use Rattle.std.specs.Prelude.{ℕ, ◌+◌, ◌-◌, ◌*◌, List, [], ◌∷◌, Bool, false, ◌&&◌, nat_le, Option, Some, None, if◌then◌else◌}

abbrev pub is_digit : ℕ → Bool
is_digit b = nat_le 48 b && nat_le b 57

-- the number that the digits at the front write behind those that were read
abbrev pub number_from : ℕ → List ℕ → ℕ
number_from n [] = n
number_from n (b ∷ bs) = if is_digit b then number_from (10 * n + (b - 48)) bs else n

-- what stands behind the digits at the front
abbrev pub past_digits : List ℕ → List ℕ
past_digits [] = []
past_digits (b ∷ bs) = if is_digit b then past_digits bs else b ∷ bs

-- the first digit, and what stands behind it
abbrev pub past_word : List ℕ → List ℕ
past_word [] = []
past_word (b ∷ bs) = if is_digit b then b ∷ bs else past_word bs

-- the text begins with a digit
abbrev pub begins_with_digit : List ℕ → Bool
begins_with_digit [] = false
begins_with_digit (b ∷ bs) = is_digit b

-- the number, where it is not greater than the most
abbrev pub up_to : ℕ → ℕ → Option ℕ
up_to most n = if nat_le n most then Some n else None
