use Rattle.std.proofs.Common.{All, IsTrue, refl, sym, subst}
use Rattle.std.proofs.lemmas.List.{take_all}
use Rattle.std.proofs.lemmas.List.Elements.{All-get_or, All-map, All-more}
use Rattle.price_certificate.specs.Problem.{IsRow}
use Rattle.price_certificate.specs.Rows.{row_at}
use Rattle.price_certificate.proofs.RowLemmas.{all_from}
use Rattle.price_certificate.proofs.rows.are_rows_at.Goals as goal

pub returns-then-not-is_row : goal.returns-then-not-is_row
returns-then-not-is_row c = (
  λ f. cc,
  λ h.
      let row : IsRow c.args.bins c.row_at.result.now = subst (IsRow c.args.bins) (sym c.row_at.ensures) (All-get_or (λ number. IsRow c.args.bins (row_at c.args.lists.now number)) c.args.list_of.now c.loop-number.number-index 0 c.loop-number-test.true (all_from (IsRow c.args.bins) c.args.lists.now c.args.list_of.now h)) in
      let t : IsTrue c.is_row.result = c.is_row.ensures.1 row in cc,
)

pub loop-number-preserved : goal.loop-number-preserved
loop-number-preserved c = All-more (λ number. IsRow c.args.bins (row_at c.args.lists.now number)) c.args.list_of.now c.loop-number.number-index 0 c.loop-number-test.true c.loop-number.invariant
    (subst (IsRow c.args.bins) c.row_at.ensures (c.is_row.ensures.0 (let t : IsTrue c.is_row.result = cc in t)))

pub returns : goal.returns
returns c = (λ t. All-map (IsRow c.args.bins) (row_at c.args.lists.now) c.args.list_of.now (subst (All (λ number. IsRow c.args.bins (row_at c.args.lists.now number))) (take_all _ _ c.loop-number-test.false) c.loop-number.invariant), λ h. refl)
