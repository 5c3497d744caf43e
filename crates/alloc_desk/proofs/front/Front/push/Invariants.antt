use Rattle.std.proofs.Common.{◌≡◌}
use Rattle.alloc_desk.proofs.front.Front.push.Given as goal

abbrev pub invariant-loop-turn : goal.invariant-loop-turn
invariant-loop-turn g l = l.self ≡ l.fn.self
