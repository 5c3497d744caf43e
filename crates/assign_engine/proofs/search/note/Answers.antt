use Rattle.std.proofs.Common.{arith}
use Rattle.assign_engine.proofs.Changing.{noted_room}
use Rattle.assign_engine.proofs.search.note.Goals as goal

pub returns-then-count-capacity : goal.returns-then-count-capacity
returns-then-count-capacity c = noted_room c.args.instance.now c.args.matching.now.seating.seats c.args.bin c.distance-distance.result c.args.tables.now c.end_at.new.self c.end_at.ensures c.distance-distance.ensures (omega (arith, c.cost.ensures, c.if-distance-cost.false)) (omega (arith, c.count.ensures, c.capacity.ensures, c.if-count-capacity.true))
