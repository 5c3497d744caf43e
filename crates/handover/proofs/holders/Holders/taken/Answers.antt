use Rattle.std.proofs.Common.{arith}
use Rattle.handover.proofs.Taken.{taken_by-lookup}
use Rattle.handover.proofs.holders.Holders.taken.Goals as goal

pub returns-in-Some : goal.returns-in-Some
returns-in-Some c = grind (arith, taken_by-lookup c.args.self.now.taken c.args.collector, c.in-Some.ensures.value)

pub returns-in-None : goal.returns-in-None
returns-in-None c = grind (arith, taken_by-lookup c.args.self.now.taken c.args.collector, c.in-None.ensures.value)
