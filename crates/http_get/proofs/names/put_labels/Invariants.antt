use Rattle.std.proofs.Common.{◌≡◌, drop}
use Rattle.http_get.specs.Queries.{labelled_names, with_names}
use Rattle.http_get.proofs.names.put_labels.Given as goal

abbrev pub invariant-loop-label : goal.invariant-loop-label
invariant-loop-label l = with_names l.names.items (labelled_names (drop l.label-index l.labels)) ≡ with_names l.fn.names.items (labelled_names l.labels)
