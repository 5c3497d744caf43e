-- What of a file was written whole.
use Rattle.std.specs.Prelude.{ℕ, List, [], ◌∷◌, if◌then◌else◌}
use Rattle.std.specs.List.{list_any}
use Rattle.json_values.specs.Texts.{is_line_feed}

-- the bytes up to the last line feed, with it
abbrev pub whole_part : List ℕ → List ℕ
whole_part [] = []
whole_part (b ∷ bs) = if list_any is_line_feed (b ∷ bs) then b ∷ whole_part bs else []
