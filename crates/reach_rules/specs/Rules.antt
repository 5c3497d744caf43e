-- Which targets the rules of a collector reach.
use Rattle.std.specs.Prelude.{◌≡◌, List, [], ◌∷◌, ◌++◌, Bool, true, false, not, find, All, IsTrue}
use Rattle.std.specs.Option.{option_map_or}
use Rattle.std.specs.Str.{bytes_eq}
use Rattle.label_sets.specs.Target.{FinalTarget, target_label}
use Rattle.reach_rules.specs.declared.rule.ReachRule.{ReachRule}
use Rattle.reach_rules.specs.declared.rule.ReachTest.{ReachTest}
use Rattle.reach_rules.specs.declared.rule.ReachTest.TheVariants.{Any, Present, Equals}

-- a test holds on a target. A missing label has the empty text
abbrev pub holds_on : ReachTest → FinalTarget → Bool
holds_on Any target = true
holds_on (Present label) target = not (bytes_eq (target_label target label) [])
holds_on (Equals label text) target = bytes_eq (target_label target label) text

-- the first rule whose test holds decides, and none means no
abbrev pub reaches : List ReachRule → FinalTarget → Bool
reaches rules target = option_map_or (λ rule. rule.allow) (find (λ rule. holds_on rule.test target) rules) false

-- the same as a relation: some rule has a test that holds on the target, and the first such rule allows
pub record Reaches (rules : List ReachRule) (target : FinalTarget) : Type 0 where
  pub before : List ReachRule
  pub rule : ReachRule
  pub after : List ReachRule
  pub split : rules ≡ before ++ rule ∷ after
  pub none_before : All (λ earlier. holds_on earlier.test target ≡ false) before
  pub holds : IsTrue (holds_on rule.test target)
  pub allows : IsTrue rule.allow
