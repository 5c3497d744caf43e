use Rattle.kept_journal.specs.Keeping.{keeps_where}
use Rattle.daemon.proofs.serving.serve_once.Given as goal

-- the ledgers of the blanks, and a desk with a pass for each seat over this allocator, with this log
abbrev pub ghosts-serve_desk-L-Ledger : goal.ghosts-serve_desk-L-Ledger
ghosts-serve_desk-L-Ledger g a = record { name = a.calls.name; parts = a.calls.parts }

abbrev pub ghosts-serve_desk-B-Ledger : goal.ghosts-serve_desk-B-Ledger
ghosts-serve_desk-B-Ledger g a = record { name = a.samples.name; parts = a.samples.parts }

abbrev pub ghosts-serve_desk-N-DeskName : goal.ghosts-serve_desk-N-DeskName
ghosts-serve_desk-N-DeskName g a = record { «opening» = a.core; seats = 4; book = a.log }

-- of its journal the device of the file keeps a beginning, where there is a file
abbrev pub ghosts-serve_desk-N-JournalName : goal.ghosts-serve_desk-N-JournalName
ghosts-serve_desk-N-JournalName g a = record { keeps = keeps_where g.F.Device.tells g.F.Device.kept a.core a.context.now.journal.file }
