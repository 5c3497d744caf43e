-- Media types (RFC 9110, section 8.3.1): what stands before the parameters, without the blanks round it, in any case
-- of ASCII.
use Rattle.std.specs.Prelude.{◌≡◌, ℕ, List, [], ◌∷◌, Bool, ◌||◌, ◌==◌, map, codes, if◌then◌else◌}
use Rattle.std.specs.List.{before_first, list_all}
use Rattle.std.specs.Char.{to_ascii_lowercase}

-- a space or a tab
abbrev pub is_blank : ℕ → Bool
is_blank b = b == 32 || b == 9

abbrev pub past_blanks : List ℕ → List ℕ
past_blanks [] = []
past_blanks (b ∷ bs) = if is_blank b then past_blanks bs else b ∷ bs

-- up to the last byte that is no blank
abbrev pub up_to_blanks : List ℕ → List ℕ
up_to_blanks [] = []
up_to_blanks (b ∷ bs) = if list_all is_blank (b ∷ bs) then [] else b ∷ up_to_blanks bs

-- the media type before the first semicolon
abbrev pub media_type : List ℕ → List ℕ
media_type text = up_to_blanks (past_blanks (before_first (λ b. b == 59) text))

abbrev pub IsJsonMedia : List ℕ → Type 0
IsJsonMedia text = map to_ascii_lowercase (media_type text) ≡ codes "application/json"
