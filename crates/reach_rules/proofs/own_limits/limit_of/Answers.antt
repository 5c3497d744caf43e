use Rattle.reach_rules.proofs.Limits.{own_limit_from_here, own_limit_from_gap}
use Rattle.reach_rules.proofs.own_limits.limit_of.Goals as goal

pub returns-in-Ok : goal.returns-in-Ok
returns-in-Ok c = own_limit_from_here _ _ _ c.index-entries-i.result c.requires c.in-Ok.ensures.here

pub returns-in-Err : goal.returns-in-Err
returns-in-Err c = own_limit_from_gap _ _ _ c.in-Err.ensures.gap
