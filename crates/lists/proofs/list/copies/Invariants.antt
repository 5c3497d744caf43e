use Rattle.std.proofs.Common.{◌≡◌, take}
use Rattle.lists.proofs.list.copies.Given as goal

abbrev pub invariant-loop-item : goal.invariant-loop-item
invariant-loop-item g l = l.all.items ≡ take l.item-index l.items
