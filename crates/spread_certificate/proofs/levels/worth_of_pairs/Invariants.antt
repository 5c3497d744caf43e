use Rattle.std.proofs.Common.{◌≡◌, ◌≤◌, ◌*◌, take}
use Rattle.spread_certificate.specs.EvenFaults.{worth_in}
use Rattle.spread_certificate.proofs.levels.worth_of_pairs.Given as goal

abbrev pub invariant-loop-pair : goal.invariant-loop-pair
invariant-loop-pair l = (l.worth ≡ worth_in l.instance l.even (take l.pair-index l.pairs)) × (l.worth ≤ l.pair-index * 4294967295)
