use Rattle.std.proofs.Common.{◌≡◌, ◌++◌}
use Rattle.serde_json.specs.View.{members_view}
use Rattle.config_members.specs.Unread.{unread_of}
use Rattle.config_members.proofs.unread.add_each.Given as goal

abbrev pub invariant-loop-name : goal.invariant-loop-name
invariant-loop-name l = l.found ++ unread_of l.place (members_view l.name-iterator) ≡ l.initial.found ++ unread_of l.place (members_view l.members.entries)
