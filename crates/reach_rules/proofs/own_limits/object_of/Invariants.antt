use Rattle.std.proofs.Common.{◌≡◌, take}
use Rattle.serde_json.specs.View.{members_view}
use Rattle.reach_rules.specs.OwnLimits.{limit_members}
use Rattle.reach_rules.proofs.LimitObjects.{EachSpelled}
use Rattle.reach_rules.proofs.own_limits.object_of.Given as goal

abbrev pub invariant-loop-entry : goal.invariant-loop-entry
invariant-loop-entry l = record {
  form : members_view l.members.entries ≡ limit_members (take l.entry-index l.entries);
  spelled : EachSpelled l.entries l.entry-index;
}
