use Rattle.std.proofs.Common.{◌≡◌, take}
use Rattle.reach_rules.proofs.own_limits.all_same.Given as goal

abbrev pub invariant-loop-i : goal.invariant-loop-i
invariant-loop-i l = take l.i l.entries ≡ take l.i l.others
