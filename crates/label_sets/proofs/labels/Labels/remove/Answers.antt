use Rattle.label_sets.proofs.Kept.{IsLabelSet-without}
use Rattle.label_sets.proofs.labels.Labels.remove.Goals as goal

pub invariant_of-self : goal.invariant_of-self
invariant_of-self g c = rw c.take_out.ensures (IsLabelSet-without _ _ c.self.invariant)
