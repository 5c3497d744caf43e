use Rattle.reach_rules.proofs.Limits.{with_limit_from_here, with_limit_from_gap}
use Rattle.reach_rules.proofs.own_limits.put.Goals as goal

-- the number is written over the name's own
pub returns-in-Ok-clause-ok : goal.returns-in-Ok-clause-ok
returns-in-Ok-clause-ok c = with_limit_from_here _ _ _ _ _ c.requires (rw c.as_slice.ensures.value at c.in-Ok.ensures.here) c.index_mut-entry.ensures.value

-- a new entry is put where the name belongs
pub returns-in_ok-insert-in-Err-clause-ok : goal.returns-in_ok-insert-in-Err-clause-ok
returns-in_ok-insert-in-Err-clause-ok c =
    rw (c.in_ok-insert-in-Err.ensures.items, c.in_ok-job-in-Err.ensures) (with_limit_from_gap _ _ _ _ (rw c.as_slice.ensures.value at c.in-Err.ensures.gap))
