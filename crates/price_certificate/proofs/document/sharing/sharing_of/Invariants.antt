use Rattle.std.proofs.Common.{◌≡◌, ◌≤◌, length}
use Rattle.price_certificate.specs.Reach.{sharing_below}
use Rattle.price_certificate.proofs.document.sharing.sharing_of.Given as goal

abbrev pub invariant-loop-item : goal.invariant-loop-item
invariant-loop-item l = record {
  so_far : record { firsts = l.firsts.items; list_of = l.list_of.items } ≡ sharing_below l.instance l.item;
  few : length l.firsts.items ≤ l.item;
}
