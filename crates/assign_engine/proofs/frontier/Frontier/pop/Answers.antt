use Rattle.std.proofs.Common.{ℕ, List, Contains, subst, sym}
use Rattle.assign_engine.proofs.Frontiers.{nearest_of, popped, popped_once}
use Rattle.assign_engine.proofs.frontier.Frontier.pop.Goals as goal

pub returns-clause-least : goal.returns-clause-least
returns-clause-least c = λ e m. nearest_of _ _ (c.in_ok-distance.ensures.heap_order c.self.invariant).1 e (subst (λ (xs : List (ℕ × ℕ)). Contains xs e) (sym c.self.view_is) m)

pub returns-clause-rest : goal.returns-clause-rest
returns-clause-rest c = λ e m. popped _ _ _ c.in_ok-distance.ensures.permutation e (subst (λ (xs : List (ℕ × ℕ)). Contains xs e) (sym c.self.view_is) m)

pub returns-clause-taken : goal.returns-clause-taken
returns-clause-taken c = popped_once _ _ _ _ c.self.view_is c.in_ok-distance.ensures.permutation
