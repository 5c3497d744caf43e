use Rattle.std.proofs.Common.{rules}
use Rattle.label_sets.proofs.Kept.{IsLabelSet-with_label}
use Rattle.label_sets.proofs.labels.Labels.set.Goals as goal

pub invariant_of-self-2 : goal.invariant_of-self-2
invariant_of-self-2 g c = rw c.in_ok-put.ensures.ok (IsLabelSet-with_label _ _ _ c.self.invariant (search rules))
