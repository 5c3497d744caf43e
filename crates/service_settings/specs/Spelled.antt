-- Durations as the regular expression of Prometheus's documentation has them: an optional part `([0-9]+)UNIT` for each unit in order,
-- or `0`, and not nothing.
use Rattle.std.specs.Prelude.{◌≡◌, ◌≢◌, ◌⊎◌, ◌≤◌, ℕ, ◌+◌, ◌*◌, List, [], ◌∷◌, ◌++◌, Bool, true, ◌&&◌, codes}
use Rattle.service_settings.specs.declared.duration.Unit.{Unit}
use Rattle.service_settings.specs.declared.duration.TheConstants.{LONGEST_DURATION, UNITS}
use Rattle.service_settings.specs.Digits.{is_digit, number_from, begins_with_digit}
use Rattle.service_settings.specs.Durations.{unit_name, unit_length}

abbrev pub are_digits : List ℕ → Bool
are_digits [] = true
are_digits (b ∷ bs) = is_digit b && are_digits bs

-- `([0-9]+)UNIT` and what stands behind it, with the length of the part
pub record IsPart (unit : Unit) (text rest : List ℕ) (length : ℕ) : Type 0 where
  pub digits : List ℕ
  pub some : begins_with_digit digits ≡ true
  pub all : are_digits digits ≡ true
  pub spelled : text ≡ digits ++ (unit_name unit ++ rest)
  pub long : length ≡ number_from 0 digits * unit_length unit

-- an optional part for each of the units, and the sum of their lengths
abbrev pub AreParts : List Unit → List ℕ → ℕ → Type 0
AreParts [] text n = (text ≡ []) × (n ≡ 0)
AreParts (unit ∷ units) text n =
    AreParts units text n ⊎ ((rest : List ℕ) × (length m : ℕ) × IsPart unit text rest length × AreParts units rest m × (n ≡ length + m))

-- a duration of so many milliseconds
pub record IsDuration (text : List ℕ) (n : ℕ) : Type 0 where
  pub some : text ≢ []
  pub spelled : ((text ≡ codes "0") × (n ≡ 0)) ⊎ AreParts UNITS text n
  pub within : n ≤ LONGEST_DURATION
