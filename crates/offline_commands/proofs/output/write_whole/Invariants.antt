use Rattle.offline_commands.specs.Writing.{HasLeft}
use Rattle.offline_commands.proofs.output.write_whole.Given as goal

abbrev pub invariant-loop-turn : goal.invariant-loop-turn
invariant-loop-turn g l = HasLeft (g.W.Write.contents l.fn.writer) (g.W.Write.contents l.writer) l.fn.bytes l.rest
