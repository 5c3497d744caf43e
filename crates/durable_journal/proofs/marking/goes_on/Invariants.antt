use Rattle.std.proofs.Common.{◌≡◌, drop}
use Rattle.durable_journal.specs.Marks.{has_history}
use Rattle.durable_journal.proofs.marking.goes_on.Given as goal

abbrev pub invariant-loop-place : goal.invariant-loop-place
invariant-loop-place l = has_history (drop l.place l.bytes) ≡ has_history l.bytes
