use Rattle.std.proofs.Common.{◌≡◌, map}
use Rattle.serde_json.specs.View.{members_view}
use Rattle.config_members.specs.Unknown.{unknown_in}
use Rattle.config_members.proofs.unknown.unknown_member.Given as goal

abbrev pub invariant-loop-name : goal.invariant-loop-name
invariant-loop-name l = unknown_in (map (λ s. s.now) l.names) (members_view l.name-iterator) ≡ unknown_in (map (λ s. s.now) l.names) (members_view l.members.entries)
