use Rattle.std.proofs.Common.{◌≡◌, ◌+◌, take}
use Rattle.price_certificate.specs.Reach.{pairs_of}
use Rattle.price_certificate.proofs.rows.has_few_pairs.Given as goal

abbrev pub invariant-loop-number : goal.invariant-loop-number
invariant-loop-number l = l.left + pairs_of l.lists (take l.number-index l.list_of) ≡ 4194304
