use Rattle.std.proofs.Common.{◌≡◌, None}
use Rattle.price_certificate.specs.Faults.{first_below}
use Rattle.price_certificate.specs.Reach.{place_at}
use Rattle.price_certificate.proofs.document.sharing.place_of.Given as goal

abbrev pub invariant-loop-number : goal.invariant-loop-number
invariant-loop-number l = first_below (place_at l.instance l.firsts l.item) l.number ≡ None
