use Rattle.std.proofs.Common.{rules}
use Rattle.std.proofs.lemmas.Fn.{always_returns_same}
use Rattle.reach_rules.specs.Name.{byte_cmp}
use Rattle.reach_rules.proofs.Limits.{searched}
use Rattle.reach_rules.proofs.own_limits.index_of.Goals as goal

-- the closure compares an entry's name
pub returns : goal.returns
returns c =
    let facts = c.binary_search_by.ensures in
    searched _ _ _ c.requires facts.bound (facts.position (λ l. byte_cmp l.0 c.args.name.now) (always_returns_same _ _ _ (λ a r f called. (search rules, search rules))))
