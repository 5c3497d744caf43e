use Rattle.served_lists.proofs.SlotLemmas.{handed_over}
use Rattle.served_lists.proofs.slots.hand_over.Goals as goal

pub returns : goal.returns
returns c =
    handed_over c.args.known.now c.args.slots.now c.let_go.new.slots c.claim.new.slots c.args.collector c.args.job c.args.targets.now c.let_go.ensures.slots c.claim.ensures.len c.claim.ensures.slots
