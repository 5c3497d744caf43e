use Rattle.handover.proofs.KeptLemmas.{current_is}
use Rattle.handover.proofs.holders.Holders.current.Goals as goal

pub returns : goal.returns
returns c = current_is c.args.self.now c.self.inside.current c.self.inside.rows.items c.self.inside.taken.entries c.self.view_is
