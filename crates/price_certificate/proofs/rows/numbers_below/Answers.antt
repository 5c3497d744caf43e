use Rattle.std.proofs.Common.{List, ℕ, [], ◌∷◌, ◌++◌, sym, ap, ◌∙◌}
use Rattle.price_certificate.proofs.RowLemmas.{numbers_more}
use Rattle.price_certificate.proofs.rows.numbers_below.Goals as goal

pub loop-number-preserved : goal.loop-number-preserved
loop-number-preserved c = c.in_ok-push.ensures.items ∙ ap (λ (xs : List ℕ). xs ++ c.loop-number.number ∷ []) c.loop-number.invariant ∙ sym (numbers_more c.loop-number.number)
