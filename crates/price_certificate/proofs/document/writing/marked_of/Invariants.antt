use Rattle.std.proofs.Common.{◌≡◌, ◌++◌, drop}
use Rattle.price_certificate.specs.Document.{marked_from}
use Rattle.price_certificate.proofs.document.writing.marked_of.Given as goal

abbrev pub invariant-loop-bin : goal.invariant-loop-bin
invariant-loop-bin l = l.draining.items ++ marked_from l.bin (drop l.bin l.instance.draining) ≡ marked_from 0 l.instance.draining
