use Rattle.std.proofs.Common.{◌≡◌, ◌++◌, drop}
use Rattle.price_certificate.specs.Document.{pairs_from}
use Rattle.price_certificate.proofs.document.writing.preceding_of.Given as goal

abbrev pub invariant-loop-item : goal.invariant-loop-item
invariant-loop-item l = l.pairs.items ++ pairs_from l.item (drop l.item l.instance.before) ≡ pairs_from 0 l.instance.before
