use Rattle.std.proofs.Common.{All, IsTrue, refl, sym, subst, ◌∙◌}
use Rattle.std.proofs.lemmas.List.{take_all}
use Rattle.std.proofs.lemmas.List.Elements.{All-get_or, All-more}
use Rattle.price_certificate.specs.Problem.{IsRow}
use Rattle.price_certificate.proofs.rows.are_rows.Goals as goal

pub returns-then-not-is_row : goal.returns-then-not-is_row
returns-then-not-is_row c = (
  λ f. cc,
  λ h.
      let row : IsRow c.args.bins c.as_slice.result.now = subst (IsRow c.args.bins) (sym c.row-item.is ∙ sym c.as_slice.ensures) (All-get_or (IsRow c.args.bins) c.args.lists.now c.loop-row.row-index c.row-item.result c.loop-row-test.true h) in
      let t : IsTrue c.is_row.result = c.is_row.ensures.1 row in cc,
)

pub loop-row-preserved : goal.loop-row-preserved
loop-row-preserved c = All-more (IsRow c.args.bins) c.args.lists.now c.loop-row.row-index c.row-item.result c.loop-row-test.true c.loop-row.invariant
    (subst (IsRow c.args.bins) (c.as_slice.ensures ∙ c.row-item.is) (c.is_row.ensures.0 (let t : IsTrue c.is_row.result = cc in t)))

pub returns : goal.returns
returns c = (λ t. subst (All (IsRow c.args.bins)) (take_all _ _ c.loop-row-test.false) c.loop-row.invariant, λ h. refl)
