use Rattle.std.proofs.Common.{◌≡◌, drop}
use Rattle.reach_rules.specs.OwnLimits.{limits_of}
use Rattle.reach_rules.proofs.Limits.{set_all}
use Rattle.reach_rules.proofs.own_limits.OwnLimits.of.Given as goal

abbrev pub invariant-loop-entry : goal.invariant-loop-entry
invariant-loop-entry l = set_all l.limits (drop l.entry-index l.entries) ≡ limits_of l.entries
