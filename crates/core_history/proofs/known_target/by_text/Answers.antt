use Rattle.core_history.proofs.KnownTargets.{no_pair}
use Rattle.core_history.proofs.known_target.by_text.Goals as goal

pub returns-then-pair-ne2 : goal.returns-then-pair-ne2
returns-then-pair-ne2 c = no_pair c.args.pair.now c.if-pair-ne2.true
