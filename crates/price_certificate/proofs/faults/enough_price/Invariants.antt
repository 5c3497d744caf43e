use Rattle.std.proofs.Common.{take}
use Rattle.price_certificate.specs.Faults.{IsEnough}
use Rattle.price_certificate.proofs.faults.enough_price.Given as goal

abbrev pub invariant-loop-bin : goal.invariant-loop-bin
invariant-loop-bin l = IsEnough l.instance l.bin_prices l.price (take l.bin-index l.row)
