-- Rows of bits, kept in words of 64.
use Rattle.std.specs.Prelude.{ℕ, ◌/◌, ◌%◌, ◌-◌, ◌*◌, ◌==◌, List, Bool, length, map, slice_index}
use Rattle.std.specs.List.{range_with_len}
use Rattle.std.specs.Int.{bit_at}

-- what contracts see of a `BitRow`: the bits, and how many more there is room for
pub record Bits : Type 0 where
  pub bits : List Bool
  pub spare : ℕ

-- the bit of a number: in the word of its quotient by 64, at the place of its remainder
abbrev pub bit_in : List ℕ → ℕ → Bool
bit_in words number = bit_at (slice_index words (number / 64)) (number % 64) == 1

-- the bits of the numbers below this one
abbrev pub bits_below : List ℕ → ℕ → List Bool
bits_below words count = map (bit_in words) (range_with_len 0 count)

abbrev pub bits_of : List ℕ → ℕ → Bits
bits_of words count = record { bits = bits_below words count; spare = 64 * length words - count }
