use Rattle.std.proofs.Common.{List, ℕ, map, ap, ◌∙◌}
use Rattle.std.specs.List.{range_with_len}
use Rattle.price_certificate.specs.Rows.{row_at}
use Rattle.price_certificate.proofs.RowLemmas.{one_each}
use Rattle.price_certificate.proofs.rows.one_each.Goals as goal

pub returns-in-Ok : goal.returns-in-Ok
returns-in-Ok c =
    ap (λ (list_of : List ℕ). map (row_at c.args.lists) list_of) (c.from_vec.ensures ∙ c.in-Ok.ensures ∙ ap (λ (n : ℕ). range_with_len 0 n) c.len.ensures) ∙ one_each c.args.lists
