use Rattle.std.proofs.Common.{◌≡◌, None}
use Rattle.price_certificate.specs.Faults.{first_below, row_fault}
use Rattle.price_certificate.proofs.faults.find_low_item.Given as goal

abbrev pub invariant-loop-item : goal.invariant-loop-item
invariant-loop-item l = first_below (row_fault l.instance l.item_prices l.bin_prices) l.item ≡ None
