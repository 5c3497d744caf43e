use Rattle.std.proofs.Common.{◌≡◌, ◌≤◌, take}
use Rattle.price_certificate.specs.Assignment.{left}
use Rattle.price_certificate.proofs.faults.count_left.Given as goal

abbrev pub invariant-loop-pair : goal.invariant-loop-pair
invariant-loop-pair l = (l.count ≡ left l.instance (take l.pair-index l.pairs)) × (l.count ≤ l.pair-index)
