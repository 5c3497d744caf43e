use Rattle.std.proofs.Common.{◌≡◌, []}
use Rattle.serde_json.specs.View.{members_view}
use Rattle.agent_documents.specs.Series.{labels_from}
use Rattle.agent_documents.proofs.series.labels_in.Given as goal

abbrev pub invariant-loop-name : goal.invariant-loop-name
invariant-loop-name l = labels_from l.labels (members_view l.name-iterator) ≡ labels_from [] (members_view l.members.entries)
