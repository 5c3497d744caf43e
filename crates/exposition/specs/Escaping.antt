-- How a label's value is written, and how a reader reads it back.
use Rattle.std.specs.Prelude.{◌≡◌, ℕ, ◌==◌, List, [], ◌∷◌, ◌++◌, Bool, true, false, Option, Some, None, option_map, if◌then◌else◌}
use Rattle.std.specs.List.{flat_map}

-- a backslash, a quotation mark and a line feed have a backslash before them, the last as the letter n
abbrev pub escaped_byte : ℕ → List ℕ
escaped_byte b = if b == 92 then 92 ∷ 92 ∷ [] else if b == 34 then 92 ∷ 34 ∷ [] else if b == 10 then 92 ∷ 110 ∷ [] else b ∷ []

abbrev pub escaped : List ℕ → List ℕ
escaped bytes = flat_map escaped_byte bytes

-- what a byte behind a backslash stands for
abbrev pub unescaped_byte : ℕ → ℕ
unescaped_byte b = if b == 110 then 10 else b

abbrev pub put_before : ℕ → Option (List ℕ × List ℕ) → Option (List ℕ × List ℕ)
put_before b read = option_map (λ (r : List ℕ × List ℕ). (b ∷ r.0, r.1)) read

-- the value up to the quotation mark that ends it, and what follows; nothing where none ends it. The first argument says whether a
-- backslash stands before
abbrev pub value_in : Bool → List ℕ → Option (List ℕ × List ℕ)
value_in behind [] = None
value_in true (b ∷ bytes) = put_before (unescaped_byte b) (value_in false bytes)
value_in false (b ∷ bytes) = if b == 34 then Some ([], bytes) else if b == 92 then value_in true bytes else put_before b (value_in false bytes)

-- A value that is written is read back, whatever it holds.
abbrev pub ValuesAreReadBack : Type 0
ValuesAreReadBack = (value rest : List ℕ) → value_in false (escaped value ++ 34 ∷ rest) ≡ Some (value, rest)
