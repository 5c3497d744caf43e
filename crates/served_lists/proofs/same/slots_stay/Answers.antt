use Rattle.std.proofs.Common.{◌∙◌}
use Rattle.served_lists.proofs.SameLemmas.{known_where}
use Rattle.served_lists.proofs.same.slots_stay.Goals as goal

pub slots_stay_with-requires-clause-within : goal.slots_stay_with-requires-clause-within
slots_stay_with-requires-clause-within c =
    known_where c.args.known.now c.args.slots.now c.args.collector c.args.job c.args.held.now c.as_slice.result.now (c.as_slice.ensures ∙ c.in_ok-list.ensures.listed)
