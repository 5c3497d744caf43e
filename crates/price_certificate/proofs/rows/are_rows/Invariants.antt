use Rattle.std.proofs.Common.{All, take}
use Rattle.price_certificate.specs.Problem.{IsRow}
use Rattle.price_certificate.proofs.rows.are_rows.Given as goal

abbrev pub invariant-loop-row : goal.invariant-loop-row
invariant-loop-row l = All (IsRow l.bins) (take l.row-index l.lists)
