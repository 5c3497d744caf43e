-- The list of groups whose texts these are: RFC 8259, section 5.
use Rattle.std.specs.Prelude.{ℕ, List, [], ◌∷◌, ◌++◌}
use Rattle.std.specs.List.{join_with_byte}

-- in brackets, joined by commas
abbrev pub list_text : List (List ℕ) → List ℕ
list_text texts = 91 ∷ (join_with_byte 44 texts ++ 93 ∷ [])
