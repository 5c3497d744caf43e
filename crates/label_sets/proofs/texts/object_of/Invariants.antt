use Rattle.std.proofs.Common.{◌≡◌, take}
use Rattle.serde_json.specs.View.{members_view}
use Rattle.label_sets.specs.Written.{label_members}
use Rattle.label_sets.proofs.texts.object_of.Given as goal

abbrev pub invariant-loop-entry : goal.invariant-loop-entry
invariant-loop-entry l = members_view l.members.entries ≡ label_members (take l.entry-index l.entries)
