-- Label names, after the data model of Prometheus: `[a-zA-Z_][a-zA-Z0-9_]*`.
use Rattle.std.specs.Prelude.{ℕ, List, [], ◌∷◌, Bool, false, ◌&&◌, ◌||◌, ◌==◌}
use Rattle.std.specs.Char.{is_ascii_alphabetic, is_ascii_alphanumeric}
use Rattle.std.specs.List.{list_all}

-- a letter of ASCII or an underscore
abbrev pub is_name_start : ℕ → Bool
is_name_start b = is_ascii_alphabetic b || b == 95

-- a letter or a digit of ASCII or an underscore
abbrev pub is_name_part : ℕ → Bool
is_name_part b = is_ascii_alphanumeric b || b == 95

abbrev pub is_label_name : List ℕ → Bool
is_label_name [] = false
is_label_name (b ∷ bs) = is_name_start b && list_all is_name_part bs
