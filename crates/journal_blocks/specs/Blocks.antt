-- A journal's text as blocks.
use Rattle.std.specs.Prelude.{◌≡◌, ◌≢◌, ◌⊎◌, ◌<◌, ◌≤◌, ◌+◌, ◌-◌, ◌==◌, ℕ, Bool, true, false, not, List, [], ◌∷◌, ◌++◌, All, length, slice_index, take, drop, if◌then◌else◌}
use Rattle.std.specs.List.{concat}
use Rattle.journal_blocks.specs.declared.blocks.TheConstants.{MOST_BYTES}

-- the bytes end with a line feed
abbrev pub ends_line : List ℕ → Bool
ends_line block = slice_index block (length block - 1) == 10

-- a piece of one line: no line feed but at its end
abbrev pub IsPiece : List ℕ → Type 0
IsPiece block = (k : ℕ) → k + 1 < length block → slice_index block k ≢ 10

-- what stands at a place: within a line only a piece of it, which may end it; where a line begins also whole lines
abbrev pub Fits : Bool → List ℕ → Type 0
Fits true block = IsPiece block
Fits false block = IsPiece block ⊎ (ends_line block ≡ true)

-- Each block is whole lines or a piece of one line. A line that is longer than a block begins where a block begins, and ends where one ends.
abbrev pub AreBlocks : Bool → List (List ℕ) → Type 0
AreBlocks within [] = Unit {0}
AreBlocks within (block ∷ blocks) = Fits within block × AreBlocks (not (ends_line block)) blocks

-- some bytes, and no more than a block may have
abbrev pub IsOfSize : List ℕ → Type 0
IsOfSize block = (0 < length block) × (length block ≤ MOST_BYTES)

-- a text as blocks: they are the text, one after the other, each is of a size, and the lines stand as they are to
pub record IsCut (text : List ℕ) (blocks : List (List ℕ)) : Type 0 where
  pub whole : concat blocks ≡ text
  pub sizes : All IsOfSize blocks
  pub lines : AreBlocks false blocks

-- how many blocks there are up to the last that ends a line: behind them is a torn end
abbrev pub whole_count : List (List ℕ) → ℕ
whole_count [] = 0
whole_count (block ∷ blocks) = if whole_count blocks == 0 then (if ends_line block then 1 else 0) else whole_count blocks + 1

-- A torn end is whole blocks: what stands behind the last block that ends a line is a piece of one line that does not end, and what stands before it ends
-- a line.
pub record IsTornAt (blocks : List (List ℕ)) (count : ℕ) : Type 0 where
  pub torn : (k : ℕ) → slice_index (concat (drop count blocks)) k ≢ 10
  pub whole : 0 < count → ends_line (concat (take count blocks)) ≡ true

abbrev pub TornEndsAreBlocks : Type 0
TornEndsAreBlocks = (blocks : List (List ℕ)) → AreBlocks false blocks → IsTornAt blocks (whole_count blocks)
