use Rattle.std.proofs.Common.{All, IsTrue, subst}
use Rattle.price_certificate.specs.Problem.{IsRow}
use Rattle.price_certificate.proofs.RowLemmas.{all_by, no_row}
use Rattle.price_certificate.proofs.rows.has_rows.Goals as goal

pub returns-then-are_rows : goal.returns-then-are_rows
returns-then-are_rows c = (
  λ t. all_by (IsRow c.args.bins) c.args.rows.now.lists (no_row c.args.bins) (subst (All (IsRow c.args.bins)) c.as_slice.ensures (c.are_rows.ensures.0 t)) c.args.rows.now.list_of,
  λ h. let t : IsTrue c.are_rows.result = cc in t,
)

pub returns-else-are_rows : goal.returns-else-are_rows
returns-else-are_rows c =
    let lists = c.as_slice-else-are_rows.ensures in
    let list_of = c.as_slice-else-are_rows-2.ensures in
    let is = c.are_rows_at.ensures in
    rw list_of at (rw lists at is)
