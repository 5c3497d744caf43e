-- What a label set is finished to: no target without an address.
use Rattle.std.specs.Prelude.{[], codes, if◌then◌else◌}
use Rattle.std.specs.Str.{bytes_eq}
use Rattle.label_sets.specs.declared.target.Finished.{Finished}
use Rattle.label_sets.specs.declared.target.Finished.TheVariants.{Target, NoAddress}
use Rattle.label_sets.specs.Labels.{LabelList, label_text}
use Rattle.label_sets.specs.Target.{group_labels}

abbrev pub finished : LabelList → Finished
finished labels = if bytes_eq (label_text labels (codes "__address__")) [] then NoAddress else Target (record { address = label_text labels (codes "__address__"); labels = group_labels labels })
