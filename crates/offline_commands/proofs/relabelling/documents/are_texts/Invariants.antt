use Rattle.std.proofs.Common.{◌≡◌}
use Rattle.serde_json.specs.View.{members_view}
use Rattle.offline_commands.specs.Relabelling.{are_texts}
use Rattle.offline_commands.proofs.relabelling.documents.are_texts.Given as goal

abbrev pub invariant-loop-name : goal.invariant-loop-name
invariant-loop-name l = are_texts (members_view l._name-iterator) ≡ are_texts (members_view l.members.entries)
