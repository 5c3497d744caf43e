use Rattle.std.proofs.Common.{◌≡◌, drop}
use Rattle.durable_journal.specs.Marks.{behind_feed}
use Rattle.durable_journal.proofs.marking.behind_first.Given as goal

abbrev pub invariant-loop-place : goal.invariant-loop-place
invariant-loop-place l = behind_feed (drop l.place l.bytes) ≡ behind_feed l.bytes
