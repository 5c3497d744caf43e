use Rattle.std.proofs.Common.{◌≤◌, length}
use Rattle.page_rows.specs.declared.found.TheConstants.{MOST_FOUND}
use Rattle.page_rows.proofs.found.found_of.Given as goal

abbrev pub invariant-loop-number : goal.invariant-loop-number
invariant-loop-number l = length l.first.items ≤ MOST_FOUND
