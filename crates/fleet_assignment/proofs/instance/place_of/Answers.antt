use Rattle.std.proofs.Common.{ℕ, Option, ◌<◌, ◌∙◌, length, rules, subst, sym}
use Rattle.std.specs.Prelude.{IfSome}
use Rattle.std.specs.Ordering.{nat_cmp}
use Rattle.std.proofs.lemmas.Fn.{always_returns_same}
use Rattle.fleet.specs.declared.collector.Collector.{Collector}
use Rattle.fleet_assignment.proofs.PlaceLemmas.{in_range, searched}
use Rattle.fleet_assignment.proofs.instance.place_of.Goals as goal

-- the closure compares a collector's number
pub returns-clause-place : goal.returns-clause-place
returns-clause-place c =
    let facts = c.binary_search_by.ensures in
    c.ok.ensures.value ∙ searched _ _ _ c.requires facts.bound (facts.position (λ (one : Collector). nat_cmp one.id c.args.id) (always_returns_same _ _ _ (λ a r f called. (search rules, search rules))))

pub returns-clause-within : goal.returns-clause-within
returns-clause-within c = subst (λ (o : Option ℕ). IfSome o (λ p. p < length c.args.collectors.now)) (sym c.ok.ensures.value) (in_range _ _ c.binary_search_by.ensures.bound)
