-- The lines of a text: what stands between line feeds.
use denote.Ref.{Bor}
use Rattle.std.specs.Prelude.{◌≡◌, ℕ, ◌+◌, ◌==◌, List, [], ◌∷◌, ◌++◌, length, false, Option, Some, None}
use Rattle.std.specs.List.{list_any, slice_split}

abbrev pub HasNoFeed : List ℕ → Type 0
HasNoFeed bytes = list_any (λ b. b == 10) bytes ≡ false

-- a line, and then the rest
abbrev pub with_line : List ℕ → List ℕ → List ℕ
with_line line rest = line ++ (10 ∷ rest)

-- the bytes of lines, each ended by a line feed
abbrev pub written : List (List ℕ) → List ℕ
written [] = []
written (line ∷ lines) = with_line line (written lines)

-- none of the lines has a line feed
abbrev pub AreLines : List (List ℕ) → Type 0
AreLines [] = Unit {0}
AreLines (line ∷ lines) = HasNoFeed line × AreLines lines

-- what stands between line feeds, and last what stands behind the last of them
abbrev pub lines_in : List ℕ → List (List ℕ)
lines_in text = slice_split (λ b. b == 10) text

-- ---- as a loop over the lines meets them

-- the lines of what follows a line feed, or of nothing
abbrev pub lines_left : Option (Bor (List ℕ)) → List (List ℕ)
lines_left None = []
lines_left (Some bytes) = lines_in bytes.now

-- how long it is, with its line feed
abbrev pub size_left : Option (Bor (List ℕ)) → ℕ
size_left None = 0
size_left (Some bytes) = length bytes.now + 1
