use Rattle.std.proofs.Common.{◌≡◌, drop}
use Rattle.serde_json.specs.View.{items_view}
use Rattle.sd_routes.specs.JoinMembers.{are_short}
use Rattle.sd_routes.proofs.join_members.are_short.Given as goal

abbrev pub invariant-loop-rule : goal.invariant-loop-rule
invariant-loop-rule l = are_short (items_view (drop l.rule-index l.rules)) ≡ are_short (items_view l.rules)
