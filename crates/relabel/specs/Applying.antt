-- Lists of rules: which they are, and what they make of the labels of a target.
use Rattle.std.specs.Prelude.{◌≡◌, ◌⊎◌, ℕ, ◌+◌, List, [], ◌∷◌, Bool, Result, Ok}
use Rattle.std.specs.Option.{option_map_or}
use Rattle.serde_json.specs.Data.{Items, no_items, item}
use Rattle.label_sets.specs.Labels.{LabelList}
use Rattle.relabel.specs.declared.error.RuleError.{RuleError}
use Rattle.relabel.specs.declared.error.RulesError.{RulesError}
use Rattle.relabel.specs.declared.rule.RuleSettings.{RuleSettings}
use Rattle.relabel.specs.declared.rules.Relabelled.{Relabelled}
use Rattle.relabel.specs.declared.rules.Relabelled.TheVariants.{Kept, Dropped}
use Rattle.relabel.specs.Reading.{◌>>=◌, Refuses}
use Rattle.relabel.specs.Spelling.{rule_said}
use Rattle.relabel.specs.Effect.{effect}

abbrev pub rules_said : Items → Result (List RuleSettings) RuleError
rules_said no_items = Ok []
rules_said (item d ds) = rule_said d >>= λ rule. rules_said ds >>= λ rules. Ok (rule ∷ rules)

-- The first item that is no rule is refused, with its number. The first of the items has the number that is given
abbrev pub IsRefusedFrom : (List ℕ → Bool) → ℕ → Items → RulesError → Type 0
IsRefusedFrom too_big number no_items e = ⊥
IsRefusedFrom too_big number (item d ds) e =
    ((e.number ≡ number) × Refuses too_big e.error (rule_said d)) ⊎ ((rule : RuleSettings) × (rule_said d ≡ Ok rule) × IsRefusedFrom too_big (number + 1) ds e)

-- one rule after the other, up to the first that drops the target
abbrev pub relabelled_from : ℕ → List RuleSettings → LabelList → Relabelled
relabelled_from number [] labels = Kept labels
relabelled_from number (rule ∷ rules) labels = option_map_or (λ more. relabelled_from (number + 1) rules more) (effect rule labels) (Dropped number)

-- the numbers are from 1 on
abbrev pub relabelled : List RuleSettings → LabelList → Relabelled
relabelled = relabelled_from 1
