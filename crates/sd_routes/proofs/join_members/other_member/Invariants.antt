use Rattle.std.proofs.Common.{◌≡◌}
use Rattle.serde_json.specs.View.{members_view}
use Rattle.sd_routes.specs.JoinMembers.{other_member}
use Rattle.sd_routes.proofs.join_members.other_member.Given as goal

abbrev pub invariant-loop-name : goal.invariant-loop-name
invariant-loop-name l = other_member (members_view l.name-iterator) ≡ other_member (members_view l.members.entries)
