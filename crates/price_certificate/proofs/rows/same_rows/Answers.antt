use Rattle.std.proofs.Common.{◌≡◌, List, ℕ, [], ◌∷◌, ◌++◌, get_or, take, sym, ap, ◌∙◌, arith}
use Rattle.std.proofs.lemmas.List.{length-map, take_more}
use Rattle.price_certificate.specs.Rows.{row_at, rows_of}
use Rattle.price_certificate.proofs.RowLemmas.{same_slices}
use Rattle.price_certificate.proofs.rows.same_rows.Goals as goal

pub loop-item-preserved : goal.loop-item-preserved
loop-item-preserved c =
    let mine = rows_of c.args.rows.now in
    let theirs = rows_of c.args.others.now in
    let item = c.loop-item.item in
    let here : get_or mine item [] ≡ get_or theirs item [] = sym c.row.ensures ∙ same_slices c.row.result.now c.row-in-loop-item.result.now c.if-ne.ensures ∙ c.row-in-loop-item.ensures in
    take_more mine item [] (omega (arith, length-map c.args.rows.now.list_of (row_at c.args.rows.now.lists)))
    ∙ ap (λ (xs : List (List ℕ)). xs ++ get_or mine item [] ∷ []) c.loop-item.invariant
    ∙ ap (λ (x : List ℕ). take item theirs ++ x ∷ []) here
    ∙ sym (take_more theirs item [] (omega (arith, length-map c.args.others.now.list_of (row_at c.args.others.now.lists))))
