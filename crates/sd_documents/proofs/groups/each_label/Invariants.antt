use Rattle.std.proofs.Common.{◌≡◌, []}
use Rattle.serde_json.specs.View.{members_view}
use Rattle.sd_documents.specs.Groups.{labels_from}
use Rattle.sd_documents.proofs.groups.each_label.Given as goal

abbrev pub invariant-loop-name : goal.invariant-loop-name
invariant-loop-name l = labels_from l.index l.part l.labels (members_view l.name-iterator) ≡ labels_from l.index l.part [] (members_view l.members.entries)
