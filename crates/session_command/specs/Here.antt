-- The address of the page server, where a session's text names it.
use Rattle.std.specs.Prelude.{ℕ, zero, suc, List, [], ◌∷◌, ◌++◌, take, codes, if◌then◌else◌}
use Rattle.std.specs.Str.{bytes_eq}

-- The text with an address in place of each `@here`, where so many bytes of one are still to be passed.
abbrev pub with_here : List ℕ → ℕ → List ℕ → List ℕ
with_here here passed [] = []
with_here here (suc passed) (byte ∷ text) = with_here here passed text
with_here here zero (byte ∷ text) = if bytes_eq (take 5 (byte ∷ text)) (codes "@here") then here ++ with_here here 4 text else byte ∷ with_here here 0 text
