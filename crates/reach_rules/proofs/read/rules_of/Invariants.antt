use Rattle.std.proofs.Common.{◌≡◌, ◌++◌, drop, option_map}
use Rattle.serde_json.specs.View.{items_view}
use Rattle.reach_rules.specs.Spelling.{rules_spelled}
use Rattle.reach_rules.proofs.read.rules_of.Given as goal

abbrev pub invariant-loop-item : goal.invariant-loop-item
invariant-loop-item l = option_map (λ rs. l.rules ++ rs) (rules_spelled (items_view (drop l.item-index l.items))) ≡ rules_spelled (items_view l.items)
