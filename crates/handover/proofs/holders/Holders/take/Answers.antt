use Rattle.std.proofs.Common.{arith}
use Rattle.handover.proofs.Taken.{insert_entry-with_taken}
use Rattle.handover.proofs.holders.Holders.take.Goals as goal

pub returns-clause-taken : goal.returns-clause-taken
returns-clause-taken c = grind (arith, insert_entry-with_taken, c.in_ok-map_err.ensures, c.insert.ensures.entries)
