use Rattle.std.proofs.Common.{◌≡◌, take}
use Rattle.price_certificate.specs.Rows.{rows_of}
use Rattle.price_certificate.proofs.rows.same_rows.Given as goal

abbrev pub invariant-loop-item : goal.invariant-loop-item
invariant-loop-item l = take l.item (rows_of l.rows) ≡ take l.item (rows_of l.others)
