use Rattle.std.proofs.Common.{refl}
use Rattle.std.specs.Prelude.{codes}
use Rattle.label_sets.proofs.Kept.{IsLabelSet-with_label}
use Rattle.label_sets.proofs.labels.Labels.add_instance.Goals as goal

pub invariant_of-self-2 : goal.invariant_of-self-2
invariant_of-self-2 c = rw c.in_ok-put.ensures.ok (IsLabelSet-with_label c.self.inside.entries.items (codes "instance") c.as_str.result.now c.self.invariant refl)
