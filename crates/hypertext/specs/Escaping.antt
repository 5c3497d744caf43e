-- How a text is written in HTML.
use Rattle.std.specs.Prelude.{◌≡◌, ℕ, ◌==◌, ◌||◌, List, [], ◌∷◌, codes, Bool, false, if◌then◌else◌}
use Rattle.std.specs.List.{flat_map}

-- What could begin or end a tag, an entity or an attribute's value is a character reference (HTML, 13.1.4).
abbrev pub escaped_byte : ℕ → List ℕ
escaped_byte b =
    if b == 38 then codes "&amp;"
    else if b == 60 then codes "&lt;"
    else if b == 62 then codes "&gt;"
    else if b == 34 then codes "&quot;"
    else if b == 39 then codes "&#39;"
    else b ∷ []

abbrev pub escaped : List ℕ → List ℕ
escaped bytes = flat_map escaped_byte bytes

-- a bracket of a tag, or a quotation mark of an attribute's value
abbrev pub is_markup : ℕ → Bool
is_markup b = (b == 60) || ((b == 62) || ((b == 34) || (b == 39)))

abbrev pub has_markup : List ℕ → Bool
has_markup [] = false
has_markup (b ∷ bytes) = is_markup b || has_markup bytes

-- No text that is shown is markup.
abbrev pub TextsAreNoMarkup : Type 0
TextsAreNoMarkup = (bytes : List ℕ) → has_markup (escaped bytes) ≡ false
