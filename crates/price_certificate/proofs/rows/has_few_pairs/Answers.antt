use Rattle.std.proofs.Common.{List, ℕ, length, ap, arith}
use Rattle.price_certificate.proofs.Sharing.{too_many}
use Rattle.price_certificate.proofs.rows.has_few_pairs.Goals as goal

pub returns-then-length-left : goal.returns-then-length-left
returns-then-length-left c = (λ f. cc, λ few. absurd (too_many c.args.lists.now c.args.list_of.now c.loop-number.number-index c.loop-number.left (omega arith) c.loop-number.invariant (omega (arith, ap (λ (xs : List ℕ). length xs) c.row_at-length.ensures)) few))
