-- The lists of bins of an instance's items, where items may share a list.
use Rattle.std.specs.Prelude.{ℕ, List, [], map, slice_index_or}
use Rattle.price_certificate.specs.declared.rows.Rows.{Rows}

-- the list of this number
abbrev pub row_at : List (List ℕ) → ℕ → List ℕ
row_at lists number = slice_index_or lists number []

-- the list of each item
abbrev pub rows_of : Rows → List (List ℕ)
rows_of rows = map (row_at rows.lists) rows.list_of
