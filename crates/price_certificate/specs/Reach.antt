-- The member `reach` of a document. It is an array with a list of bins for each item; or, where items share their lists, an object: `rows` has
-- the lists, and `row_of` for each item the number of its list among them, from 0.
use Rattle.std.specs.Prelude.{ℕ, zero, suc, List, [], ◌∷◌, ◌++◌, Bool, true, false, ◌&&◌, nat_eq, nat_le, nat_lt, min, length, map, sum_by, slice_index, Option, Some, None, option_and_then, codes, if◌then◌else◌}
use Rattle.std.specs.List.{list_all}
use Rattle.std.specs.Cmp.Lexicographic.{pointwise}
use Rattle.serde_json.specs.Data.{Data, object, no_members, member}
use Rattle.json_values.specs.Spelling.{number_in, list_in, member_in, number_data, list_data}
use Rattle.price_certificate.specs.Faults.{first_below}
use Rattle.price_certificate.specs.Problem.{Problem, items_of, row_of}
use Rattle.price_certificate.specs.Rows.{row_at}
use Rattle.price_certificate.specs.declared.shape.TheConstants.{MOST_ITEMS, MOST_PAIRS}
use Rattle.price_certificate.specs.declared.document.sharing.TheConstants.{MOST_SHARED}

-- ---- what is read

-- how many pairs are allowed to items with lists of these numbers
abbrev pub pairs_of : List (List ℕ) → List ℕ → ℕ
pairs_of rows list_of = sum_by (λ number. length (row_at rows number)) list_of

-- each number is that of a list, and there are not more items and pairs than an instance may have
abbrev pub may_share : List (List ℕ) → List ℕ → Bool
may_share rows list_of = list_all (λ number. nat_lt number (length rows)) list_of && (nat_le (length list_of) MOST_ITEMS && nat_le (pairs_of rows list_of) MOST_PAIRS)

-- the list of each item
abbrev pub shared_rows : List (List ℕ) → List ℕ → Option (List (List ℕ))
shared_rows rows list_of = if may_share rows list_of then Some (map (row_at rows) list_of) else None

abbrev pub shared_in : Data → Option (List (List ℕ))
shared_in d = option_and_then (λ rows. option_and_then (λ list_of. shared_rows rows list_of) (member_in (list_in number_in) (codes "row_of") d)) (member_in (list_in (list_in number_in)) (codes "rows") d)

abbrev pub rows_in : Data → Option (List (List ℕ))
rows_in (object members) = shared_in (object members)
rows_in d = list_in (list_in number_in) d

-- ---- what is written

-- the items whose lists are written, and for each item the number of its list
pub record Sharing : Type 0 where
  pub firsts : List ℕ
  pub list_of : List ℕ

-- the number of a list that is this item's
abbrev pub place_at : Problem → List ℕ → ℕ → ℕ → Option ℕ
place_at p firsts item number = if pointwise nat_eq (row_of p (slice_index firsts number)) (row_of p item) then Some number else None

-- the first of the lists that is this item's; only the first `MOST_SHARED` are looked at
abbrev pub place_of : Problem → List ℕ → ℕ → Option ℕ
place_of p firsts item = first_below (place_at p firsts item) (min (length firsts) MOST_SHARED)

-- an item more: its list is written where none that is written is the same
abbrev pub with_place : Option ℕ → ℕ → Sharing → Sharing
with_place (Some number) item s = record { firsts = s.firsts; list_of = s.list_of ++ number ∷ [] }
with_place None item s = record { firsts = s.firsts ++ item ∷ []; list_of = s.list_of ++ length s.firsts ∷ [] }

abbrev pub sharing_below : Problem → ℕ → Sharing
sharing_below p zero = record { firsts = []; list_of = [] }
sharing_below p (suc n) = with_place (place_of p (sharing_below p n).firsts n) n (sharing_below p n)

abbrev pub sharing_of : Problem → Sharing
sharing_of p = sharing_below p (items_of p)

abbrev pub shared_data : Problem → Sharing → Data
shared_data p s = object (member (codes "row_of") (list_data number_data s.list_of) (member (codes "rows") (list_data (list_data number_data) (map (row_of p) s.firsts)) no_members))

-- in which of the two forms
abbrev pub reach_data : Bool → Problem → Data
reach_data true p = shared_data p (sharing_of p)
reach_data false p = list_data (list_data number_data) p.rows
