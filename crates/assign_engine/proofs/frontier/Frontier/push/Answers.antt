use Rattle.std.proofs.Common.{ℕ, List, Contains, subst, sym}
use Rattle.assign_engine.proofs.Frontiers.{pushed_kept, pushed_added, pushed_once}
use Rattle.assign_engine.proofs.frontier.Frontier.push.Goals as goal

pub returns-clause-kept : goal.returns-clause-kept
returns-clause-kept c = λ e m. pushed_kept _ _ _ c.in_ok-push.ensures.permutation e (subst (λ (xs : List (ℕ × ℕ)). Contains xs e) (sym c.self.view_is) m)

pub returns-clause-added : goal.returns-clause-added
returns-clause-added c = pushed_added _ _ _ c.in_ok-push.ensures.permutation

pub returns-clause-once : goal.returns-clause-once
returns-clause-once c = pushed_once _ _ _ _ c.self.view_is c.in_ok-push.ensures.permutation
