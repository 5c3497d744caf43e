use Rattle.desk_tests.proofs.desks.ended_over.Given as goal

-- the ledgers of the blanks, and a desk with so many passes over this allocator, with this log
abbrev pub ghosts-ended_at-L-Ledger : goal.ghosts-ended_at-L-Ledger
ghosts-ended_at-L-Ledger g a = record { name = a.calls.name; parts = a.calls.parts }

abbrev pub ghosts-ended_at-B-Ledger : goal.ghosts-ended_at-B-Ledger
ghosts-ended_at-B-Ledger g a = record { name = a.samples.name; parts = a.samples.parts }

abbrev pub ghosts-ended_at-N-DeskName : goal.ghosts-ended_at-N-DeskName
ghosts-ended_at-N-DeskName g a = record { «opening» = a.core; seats = a.seats; book = a.log }
