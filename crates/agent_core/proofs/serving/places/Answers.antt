use Rattle.std.proofs.Common.{arith}
use Rattle.agent_core.proofs.ServedLemmas.{range_more}
use Rattle.agent_core.proofs.serving.places.Goals as goal

pub loop-place-preserved : goal.loop-place-preserved
loop-place-preserved c = let more = range_more c.loop-place.all.items c.loop-place.place c.args.count (omega arith) in grind (arith, more)
