use Rattle.std.proofs.Common.{◌≡◌, option_map}
use Rattle.serde_json.specs.View.{members_view}
use Rattle.reach_rules.specs.OwnLimits.{limits_of, entries_in}
use Rattle.reach_rules.proofs.Limits.{set_all}
use Rattle.reach_rules.proofs.own_limits.read_members.Given as goal

abbrev pub invariant-loop-job : goal.invariant-loop-job
invariant-loop-job l =
    option_map (set_all l.limits) (entries_in (members_view l.job-iterator))
    ≡ option_map limits_of (entries_in (members_view l.members.entries))
