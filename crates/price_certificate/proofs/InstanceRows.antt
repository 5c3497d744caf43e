-- What is known of the rows of an instance.
use Rattle.std.proofs.Common.{◌<◌, ℕ, []}
use Rattle.std.proofs.lemmas.List.Elements.{All-get_or, All-contains}
use Rattle.price_certificate.specs.Problem.{Problem, IsProblem, IsRow, items_of, bins_of, row_of, IsAllowed}
use Rattle.price_certificate.proofs.Duality.{allowed_item}

-- each row of an instance is one of its rows
pub is_row : (p : Problem) → IsProblem p → (item : ℕ) → item < items_of p → IsRow (bins_of p) (row_of p item)
unfolding row_of
is_row p h item l = All-get_or (IsRow (bins_of p)) p.rows item [] l h.reach.each_row

-- an allowed pair names a bin of the instance
pub allowed_bin : (p : Problem) → IsProblem p → (item bin : ℕ) → IsAllowed p item bin → bin < bins_of p
allowed_bin p h item bin a = All-contains (λ b. b < bins_of p) (row_of p item) bin (is_row p h item (allowed_item p item bin a)).in_range a
