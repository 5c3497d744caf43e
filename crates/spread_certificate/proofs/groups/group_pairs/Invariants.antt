use Rattle.std.proofs.Common.{◌≡◌, ℕ, map, take}
use Rattle.spread_certificate.specs.Loads.{group_of}
use Rattle.spread_certificate.specs.Even.{owner_of, owners_of}
use Rattle.spread_certificate.proofs.groups.group_pairs.Given as goal

abbrev pub invariant-loop-pair : goal.invariant-loop-pair
invariant-loop-pair l = l.grouped.items ≡ map (λ (q : ℕ × ℕ). (q.0, group_of l.instance (owner_of l.jobs) (owners_of l.instance l.jobs) q.1)) (take l.pair-index l.pairs)
