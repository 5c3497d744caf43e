use Rattle.std.proofs.Common.{◌≡◌, take}
use Rattle.price_certificate.proofs.document.writing.limits_of.Given as goal

abbrev pub invariant-loop-bin : goal.invariant-loop-bin
invariant-loop-bin l = l.limits.items ≡ take l.bin l.instance.limits
