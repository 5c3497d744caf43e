use Rattle.std.proofs.Common.{arith}
use Rattle.assign_engine.specs.Seats.{seat}
use Rattle.assign_engine.proofs.Rolling.{sat}
use Rattle.assign_engine.proofs.reprice.reprice_bin.Goals as goal

pub lower_items-requires-clause-items : goal.lower_items-requires-clause-items
lower_items-requires-clause-items c = λ t l. c.requires.items t (sat c.args.bin (seat c.args.matching.now.seating.seats t) (omega (arith, c.members.ensures t)))
