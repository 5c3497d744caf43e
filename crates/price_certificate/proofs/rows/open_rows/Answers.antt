use Rattle.std.proofs.Common.{List, ℕ, map, ap, ◌∙◌}
use Rattle.price_certificate.specs.Derived.{open_bins}
use Rattle.price_certificate.specs.Rows.{row_at}
use Rattle.price_certificate.proofs.RowLemmas.{open_by}
use Rattle.price_certificate.proofs.rows.open_rows.Goals as goal

pub returns-in-Ok : goal.returns-in-Ok
returns-in-Ok c =
    ap (λ (lists : List (List ℕ)). map (row_at lists) c.in_ok-list_of.list_of) (c.from_vec.ensures ∙ c.in-Ok.ensures ∙ ap (λ (lists : List (List ℕ)). map (open_bins c.args.caps.now) lists) c.as_slice.ensures)
    ∙ ap (λ (list_of : List ℕ). map (row_at (map (open_bins c.args.caps.now) c.args.rows.now.lists)) list_of) c.in_ok-list_of.ensures
    ∙ open_by c.args.caps.now c.args.rows.now.lists c.args.rows.now.list_of
