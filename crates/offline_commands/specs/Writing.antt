-- What a program writes, where a write may fail.
use Rattle.std.specs.Prelude.{◌≡◌, ◌⊎◌, ◌++◌, ℕ, List, Option}
use Rattle.std.specs.Io.KnownBytes.{Appends}
use Rattle.offline_commands.specs.declared.ending.Ending.{Ending}
use Rattle.offline_commands.specs.declared.ending.Ending.TheVariants.{Unwritten}

-- the known bytes grew by the text without these last bytes of it
pub record HasLeft (before after : Option (List ℕ)) (text left : List ℕ) : Type 0 where
  pub written : List ℕ
  pub split : text ≡ written ++ left
  pub grown : Appends before after written

-- the known bytes grew by a first part of the text, and by nothing else
abbrev pub AppendsPart : Option (List ℕ) → Option (List ℕ) → List ℕ → Type 0
AppendsPart before after text = (left : List ℕ) × HasLeft before after text left

-- the writer took the whole text and the program ends as it is meant to, or the writer took a first part and failed
abbrev pub IsWritten : Ending → List ℕ → Option (List ℕ) → Option (List ℕ) → Ending → Type 0
IsWritten meant text before after ending = ((ending ≡ meant) × Appends before after text) ⊎ ((ending ≡ Unwritten) × AppendsPart before after text)
