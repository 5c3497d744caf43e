use Rattle.std.proofs.Common.{◌≡◌, take}
use Rattle.alloc_desk.specs.Receipts.{told_from}
use Rattle.alloc_desk.proofs.closed.are_told.Given as goal

abbrev pub invariant-loop-i : goal.invariant-loop-i
invariant-loop-i l = take l.i l.receipts ≡ told_from 0 (take l.i l.entries)
