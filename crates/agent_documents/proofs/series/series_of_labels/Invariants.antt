use Rattle.std.proofs.Common.{◌≡◌, drop}
use Rattle.agent_documents.specs.Series.{public_labels, without_private}
use Rattle.agent_documents.proofs.series.series_of_labels.Given as goal

abbrev pub invariant-loop-name : goal.invariant-loop-name
invariant-loop-name l = without_private l.kept (drop l.name-index l.labels) ≡ public_labels l.labels
