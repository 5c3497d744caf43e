use Rattle.std.proofs.Common.{◌≡◌, sym, ◌∙◌, true, ap, true≢false, refl}
use Rattle.label_sets.specs.Name.{is_label_name}
use Rattle.relabel.specs.declared.rule.RuleSettings.{RuleSettings}
use Rattle.relabel.specs.Spelling.{is_hash_mod}
use Rattle.relabel.proofs.Fitting.{fit_parts}
use Rattle.relabel.proofs.rule_matcher.RuleMatcher.hash.Goals as goal

pub nonzero_rem-shard : goal.nonzero_rem-shard
nonzero_rem-shard c =
    let rule = c.self.inside.rule.now in
    let hash_mod : is_hash_mod rule.action ≡ true = rw (← c.self.view_is) at c.requires in
    rw c.settings-rule.ensures.all (fit_parts (is_hash_mod rule.action) (is_label_name rule.target_label) rule.modulus hash_mod c.settings-rule.ensures.fit).1

pub unreachable-requires : goal.unreachable-requires
unreachable-requires c =
    let rule = c.self.inside.rule.now in
    let hash_mod : is_hash_mod rule.action ≡ true = rw (← c.self.view_is) at c.requires in
    let named = (fit_parts (is_hash_mod rule.action) (is_label_name rule.target_label) rule.modulus hash_mod c.settings-rule.ensures.fit).0 in
    let bad = c.set.ensures.bad_name.0 (c.in-Err-BadLabelName.is ∙ rw c.in-Err-BadLabelName.field-0-is refl) in
    true≢false (sym named ∙ sym (ap is_label_name (c.as_str-2.ensures ∙ ap (λ (r : RuleSettings). r.target_label) c.settings-rule.ensures.all)) ∙ bad)
