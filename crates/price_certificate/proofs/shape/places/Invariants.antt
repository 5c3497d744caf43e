use Rattle.std.proofs.Common.{take}
use Rattle.price_certificate.proofs.Placing.{IsPlacing}
use Rattle.price_certificate.proofs.shape.places.Given as goal

abbrev pub invariant-loop-i : goal.invariant-loop-i
invariant-loop-i l = IsPlacing l.items l.bins (take l.i l.pairs) l.places.items
