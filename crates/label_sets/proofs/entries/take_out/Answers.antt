use Rattle.std.proofs.Common.{◌∙◌}
use Rattle.label_sets.proofs.Places.{without_from_here, without_from_gap}
use Rattle.label_sets.proofs.entries.take_out.Goals as goal

pub returns-in-Ok : goal.returns-in-Ok
returns-in-Ok c = c.remove.ensures.items ∙ without_from_here _ _ _ c.requires (rw c.as_slice.ensures.value at c.in-Ok.ensures.here)

pub returns-in_default : goal.returns-in_default
returns-in_default c = without_from_gap _ _ _ (rw c.as_slice.ensures.value at c.in_default.ensures.gap)
