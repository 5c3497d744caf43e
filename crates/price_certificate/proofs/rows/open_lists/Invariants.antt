use Rattle.std.proofs.Common.{◌≡◌, map, take}
use Rattle.price_certificate.specs.Derived.{open_bins}
use Rattle.price_certificate.proofs.rows.open_lists.Given as goal

abbrev pub invariant-loop-row : goal.invariant-loop-row
invariant-loop-row l = l.open.items ≡ map (open_bins l.caps) (take l.row-index l.lists)
