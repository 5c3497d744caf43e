use Rattle.std.proofs.Common.{take}
use Rattle.price_certificate.specs.Problem.{IsMarked}
use Rattle.price_certificate.proofs.shape.marks.Given as goal

abbrev pub invariant-loop-i : goal.invariant-loop-i
invariant-loop-i l = IsMarked l.bins (take l.i l.draining) l.marks.items
