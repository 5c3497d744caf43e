-- The joined texts of the source labels, as they are written one after the other.
use Rattle.std.proofs.Common.{◌≡◌, ℕ, List, [], ◌∷◌, ◌++◌, flat_map, sym, ap, ◌∙◌}
use Rattle.std.proofs.lemmas.List.Folds.{flat_map-map}
use Rattle.label_sets.specs.Labels.{LabelList, label_text}
use Rattle.relabel.specs.declared.rule.RuleSettings.{RuleSettings}
use Rattle.relabel.specs.Effect.{input_of}

pub joined_texts : (rule : RuleSettings) (labels : LabelList) (first : List ℕ) (others : List (List ℕ)) (separator before pushed out : List ℕ) →
    rule.source_labels ≡ first ∷ others → separator ≡ rule.separator → before ≡ [] → pushed ≡ before ++ label_text labels first →
    out ≡ pushed ++ flat_map (λ name. separator ++ label_text labels name) others → out ≡ input_of rule labels
unfolding input_of
joined_texts rule labels first others separator before pushed out names same none here after =
    after ∙ rw (here, none, same, names) (ap (λ rest. label_text labels first ++ rest) (sym (flat_map-map (λ other. rule.separator ++ other) (label_text labels) others)))
