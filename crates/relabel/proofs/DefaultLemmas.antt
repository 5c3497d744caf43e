-- A rule that spells out defaults is the rule that leaves them out.
use Rattle.std.proofs.Common.{◌≡◌, ◌⊎◌, ℕ, List, Option, Some, None, Bool, true, refl, sym, ap, ◌∙◌, inl, inr}
use Rattle.std.specs.Prelude.{Result, Ok, Err, codes, is_some, if◌then◌else◌}
use Rattle.serde_json.specs.Data.{Data, string, array, no_items}
use Rattle.serde_json.specs.Find.{as_object, get}
use Rattle.relabel.specs.declared.error.RuleError.{RuleError}
use Rattle.relabel.specs.declared.error.RuleError.TheVariants.{Shape}
use Rattle.relabel.specs.declared.fields.Fields.{Fields}
use Rattle.relabel.specs.Defaults.{DefaultsMayBeLeftOut, DiffersInDefaults, IsSpelledOut}
use Rattle.relabel.specs.Reading.{◌>>=◌}
use Rattle.relabel.specs.Spelling.{fields_from, fields_said, modulus_said, settings_of, source_labels_said, target_label_said, text_or, with_pattern}

text_alike : (name default : List ℕ) (short long : Data) → IsSpelledOut name (string default) short long → text_or default (get name long) ≡ text_or default (get name short)
text_alike name default short long (inl same) = ap (text_or default) same
text_alike name default short long (inr (none, some)) = ap (text_or default) some ∙ sym (ap (text_or default) none)

labels_alike : (name : List ℕ) (short long : Data) → IsSpelledOut name (array no_items) short long → source_labels_said (get name long) ≡ source_labels_said (get name short)
labels_alike name short long (inl same) = ap source_labels_said same
labels_alike name short long (inr (none, some)) = ap source_labels_said some ∙ sym (ap source_labels_said none)

-- the fields, by what each member says
abbrev fields_by : Result (List (List ℕ)) RuleError → Result (List ℕ) RuleError → Result (Option (List ℕ)) RuleError → Result (List ℕ) RuleError → Result ℕ RuleError → Result (List ℕ) RuleError → Result (List ℕ) RuleError → Result Fields RuleError
fields_by labels separators targets patterns moduli replacements actions =
    labels >>= λ source_labels.
    separators >>= λ separator.
    targets >>= λ target_label.
    patterns >>= λ pattern.
    moduli >>= λ modulus.
    replacements >>= λ replacement.
    actions >>= λ action.
    Ok (record { source_labels = source_labels; separator = separator; target_label = target_label; pattern = pattern; modulus = modulus; replacement = replacement; action = action })

fields_alike : (short long : Data) → DiffersInDefaults short long → fields_from long ≡ fields_from short
unfolding fields_from
fields_alike short long differs =
    let labels = labels_alike (codes "source_labels") short long differs.source_labels in
    let separators = text_alike (codes "separator") (codes ";") short long differs.separator in
    let targets = ap target_label_said differs.target_label in
    let patterns = text_alike (codes "regex") (codes "(.*)") short long differs.pattern in
    let moduli = ap modulus_said differs.modulus in
    let replacements = text_alike (codes "replacement") (codes "$1") short long differs.replacement in
    let actions = text_alike (codes "action") (codes "replace") short long differs.action in
    λ i. fields_by (labels i) (separators i) (targets i) (patterns i) (moduli i) (replacements i) (actions i)

object_by : (b c : Bool) (x y : Result Fields RuleError) → b ≡ true → c ≡ true → x ≡ y → (if b then x else Err Shape) ≡ (if c then y else Err Shape)
object_by b c x y e f same = (λ i. if e i then x else Err Shape) ∙ same ∙ sym (λ i. if f i then y else Err Shape)

pub defaults_may_be_left_out : DefaultsMayBeLeftOut
defaults_may_be_left_out short long differs =
    ap (λ (fields : Result Fields RuleError). fields >>= settings_of >>= with_pattern)
    (object_by (is_some (as_object long)) (is_some (as_object short)) (fields_from long) (fields_from short) differs.is_object_too differs.is_object (fields_alike short long differs))
