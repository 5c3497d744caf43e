use Rattle.session_command.proofs.running.run_over.Given as goal

-- the ledgers of the blanks, and a desk with so many passes over this allocator, with this log
abbrev pub ghosts-run_over_desk-L-Ledger : goal.ghosts-run_over_desk-L-Ledger
ghosts-run_over_desk-L-Ledger g a = record { name = a.calls.name; parts = a.calls.parts }

abbrev pub ghosts-run_over_desk-B-Ledger : goal.ghosts-run_over_desk-B-Ledger
ghosts-run_over_desk-B-Ledger g a = record { name = a.samples.name; parts = a.samples.parts }

abbrev pub ghosts-run_over_desk-N-DeskName : goal.ghosts-run_over_desk-N-DeskName
ghosts-run_over_desk-N-DeskName g a = record { «opening» = a.core; seats = a.seats; book = a.log }

-- a session has no journal, so that all of it counts as kept
abbrev pub ghosts-run_over_desk-N-JournalName : goal.ghosts-run_over_desk-N-JournalName
ghosts-run_over_desk-N-JournalName g a = record { keeps = λ entries. Unit {0} }
