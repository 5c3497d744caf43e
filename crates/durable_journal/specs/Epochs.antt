-- The epoch of a journal: a member of its first line.
use Rattle.std.specs.Prelude.{ℕ, List, ◌++◌, ◌-◌, length, take, Option, codes, option_and_then}
use Rattle.std.specs.Fmt.{decimal}
use Rattle.json_values.specs.Texts.{json_of}
use Rattle.serde_json.specs.Data.{Data}
use Rattle.serde_json.specs.Find.{as_number, as_u64, get}

-- an object's text with the epoch as its last member
abbrev pub with_epoch : List ℕ → ℕ → List ℕ
with_epoch line epoch = take (length line - 1) line ++ (codes ",\"epoch\":" ++ (decimal epoch ++ codes "}"))

abbrev pub epoch_said : Data → Option ℕ
epoch_said d = option_and_then as_u64 (as_number d)

-- that of the journal with this first line, if it has one
abbrev pub epoch_in : List ℕ → Option ℕ
epoch_in line = option_and_then (λ d. option_and_then epoch_said (get (codes "epoch") d)) (json_of line)
