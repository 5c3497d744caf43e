-- What a program reads.
use Rattle.std.specs.Prelude.{◌≡◌, ◌<◌, ◌≤◌, ℕ, List, length}
use Rattle.offline_commands.specs.declared.input.TheConstants.{MOST_INPUT}
use Rattle.offline_commands.specs.declared.input.Input.{Input}
use Rattle.offline_commands.specs.declared.input.Input.TheVariants.{Whole, TooLong}

-- the most bytes that a program takes
abbrev pub most_input : ℕ
most_input = MOST_INPUT

-- what is taken of these bytes
abbrev pub IsTaken : List ℕ → Input → Type 0
IsTaken bytes (Whole taken) = (length bytes ≤ most_input) × (taken ≡ bytes)
IsTaken bytes TooLong = most_input < length bytes
