use Rattle.std.proofs.Common.{◌+◌, ◌<◌, ℕ, get_or}
use Rattle.price_certificate.proofs.shape.is_row.Given as goal

abbrev pub invariant-loop-i : goal.invariant-loop-i
invariant-loop-i l = ((k : ℕ) → k < l.i → get_or l.row k 0 < l.bins) × ((k : ℕ) → k + 1 < l.i → get_or l.row k 0 < get_or l.row (k + 1) 0)
