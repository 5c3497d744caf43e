use Rattle.std.proofs.Common.{take}
use Rattle.durable_journal.specs.Kept.{kept_in}
use Rattle.durable_journal.proofs.EventLines.{AreWritten}
use Rattle.durable_journal.proofs.writing.journal_lines.Given as goal

abbrev pub invariant-loop-entry : goal.invariant-loop-entry
invariant-loop-entry l = AreWritten l.fn.chain (kept_in (take l.entry-index l.entries)) l.bytes.items l.last
