use Rattle.std.proofs.Common.{◌≡◌, ◌<◌, ℕ, get_or, length}
use Rattle.price_certificate.specs.Faults.{IsEnough}
use Rattle.price_certificate.specs.Rows.{row_at}
use Rattle.price_certificate.proofs.faults.enough_prices.Given as goal

abbrev pub invariant-loop-row : goal.invariant-loop-row
invariant-loop-row l = (length l.prices.items ≡ l.row-index) × ((number : ℕ) → number < l.row-index → IsEnough l.instance l.bin_prices (get_or l.prices.items number 0) (row_at l.lists number))
