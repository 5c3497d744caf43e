use Rattle.label_sets.specs.Target.{is_group_name}
use Rattle.label_sets.proofs.Kept.{IsLabelSet-where_name}
use Rattle.label_sets.proofs.labels.Labels.keep_group.Goals as goal

pub invariant_of-self : goal.invariant_of-self
invariant_of-self c = rw c.keep_group_names.ensures (IsLabelSet-where_name _ is_group_name c.self.invariant)
