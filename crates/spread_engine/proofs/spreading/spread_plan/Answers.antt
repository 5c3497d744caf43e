use Rattle.std.proofs.Common.{ℕ, List, IfSome, length, sym, subst}
use Rattle.price_certificate.specs.declared.plan.Plan.{Plan}
use Rattle.spread_certificate.specs.Within.{AreCaps, IsBestWithin}
use Rattle.spread_engine.specs.Witness.{AreNear, MovesFew}
use Rattle.spread_certificate.proofs.JudgeLemmas.{no_best_fault_is_certified}
use Rattle.spread_engine.proofs.WitnessLemmas.{few_moves}
use Rattle.spread_engine.proofs.spreading.spread_plan.Goals as goal

pub with_even-requires-clause-best : goal.with_even-requires-clause-best
with_even-requires-clause-best c =
    let p = c.args.instance.now in
    let are = subst (λ (x : List ℕ). AreCaps p x) (sym c.in_ok-spread.ensures.caps) c.in_ok-caps.ensures.caps in
    (no_best_fault_is_certified p c.in_ok-spread.spread c.is_problem.ensures).1 (are, c.in_ok-spread.ensures.free, c.in_ok-spread.ensures.within)

pub with_even-requires-clause-feasible : goal.with_even-requires-clause-feasible
with_even-requires-clause-feasible c = c.in_ok-spread.ensures.best.feasible

pub returns-clause-moves : goal.returns-clause-moves
returns-clause-moves c =
    let p = c.args.instance.now in
    let start = c.in_ok-start.start.pairs in
    let caps = c.in_ok-caps.caps.items in
    let plan = c.in_ok-spread.spread.plan in
    let made = length c.few.result.now in
    let near : AreNear p start made caps = subst (λ (x : List (ℕ × ℕ)). AreNear p x made caps) c.as_slice-4.ensures c.in_ok-caps.ensures.near in
    let best : IsBestWithin caps p plan.pairs = subst (λ (x : List ℕ). IsBestWithin x p plan.pairs) c.in_ok-spread.ensures.caps c.in_ok-spread.ensures.best in
    let few = few_moves p start plan.pairs c.args.most_moves made caps c.in_ok-start.ensures.optimal best near c.few.ensures in
    subst (λ (q : Plan). IfSome c.args.most_moves (λ most. MovesFew p q.pairs most)) (sym c.in_ok-shown.ensures.plan) few
