use Rattle.std.proofs.Common.{All, take}
use Rattle.price_certificate.specs.Problem.{IsRow}
use Rattle.price_certificate.specs.Rows.{row_at}
use Rattle.price_certificate.proofs.rows.are_rows_at.Given as goal

abbrev pub invariant-loop-number : goal.invariant-loop-number
invariant-loop-number l = All (λ number. IsRow l.bins (row_at l.lists number)) (take l.number-index l.list_of)
