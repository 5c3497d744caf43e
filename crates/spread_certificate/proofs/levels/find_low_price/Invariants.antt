use Rattle.std.proofs.Common.{◌≡◌, None}
use Rattle.price_certificate.specs.Faults.{first_below}
use Rattle.spread_certificate.specs.EvenFaults.{row_fault}
use Rattle.spread_certificate.proofs.levels.find_low_price.Given as goal

abbrev pub invariant-loop-item : goal.invariant-loop-item
invariant-loop-item l = first_below (row_fault l.instance l.even) l.item ≡ None
