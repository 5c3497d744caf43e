use Rattle.pool_tests.proofs.turns.are_reported.Given as goal

-- the ledgers of the blanks, and a desk of one pass over this allocator, with this log
abbrev pub ghosts-over_one_desk-L-Ledger : goal.ghosts-over_one_desk-L-Ledger
ghosts-over_one_desk-L-Ledger g a = record { name = a.calls.name; parts = a.calls.parts }

abbrev pub ghosts-over_one_desk-B-Ledger : goal.ghosts-over_one_desk-B-Ledger
ghosts-over_one_desk-B-Ledger g a = record { name = a.samples.name; parts = a.samples.parts }

abbrev pub ghosts-over_one_desk-N-DeskName : goal.ghosts-over_one_desk-N-DeskName
ghosts-over_one_desk-N-DeskName g a = record { «opening» = a.core; seats = 1; book = a.log }
