-- What one rule makes of the labels of a target: the labels after it, or nothing where it drops the target.
use Rattle.std.specs.Prelude.{ℕ, ◌%◌, List, [], ◌∷◌, ◌++◌, drop, map, filter, flat_map, Bool, not, Option, Some, None, option_map, if◌then◌else◌}
use Rattle.std.specs.Option.{option_map_or}
use Rattle.std.specs.List.{filter_map}
use Rattle.std.specs.Int.{w64, from_be_bytes}
use Rattle.std.specs.Fmt.{decimal}
use Rattle.std.specs.Str.{bytes_eq}
use Rattle.md5.specs.Md5.{md5}
use Rattle.label_sets.specs.Name.{is_label_name}
use Rattle.label_sets.specs.Labels.{LabelList, label_text, with_label, names_of}
use Rattle.relabel.specs.declared.rule.RuleSettings.{RuleSettings}
use Rattle.relabel.specs.declared.action.Action.{Action}
use Rattle.relabel.specs.declared.action.Action.TheVariants.{Replace, Keep, Drop, KeepEqual, DropEqual, HashMod, LabelMap, LabelDrop, LabelKeep}
use Rattle.relabel.specs.Patterns.{match_of, matches, expanded}

-- the texts with the separator between them
abbrev pub joined : List ℕ → List (List ℕ) → List ℕ
joined separator [] = []
joined separator (text ∷ texts) = text ++ flat_map (λ other. separator ++ other) texts

-- the texts of the source labels. A missing label has the empty text
unfoldable pub input_of : RuleSettings → LabelList → List ℕ
input_of rule labels = joined rule.separator (map (label_text labels) rule.source_labels)

-- ---- replace

-- the label of this name has the text, where the name is a label name. The empty text removes it
abbrev pub with_named : LabelList → List ℕ → List ℕ → LabelList
with_named labels name text = if is_label_name name then with_label labels name text else labels

-- what the target label and the replacement stand for at the match of the pattern with the text, if it matches
abbrev pub expansions : RuleSettings → List ℕ → Option (List ℕ × List ℕ)
expansions rule text = option_map (λ m. (expanded rule.pattern rule.target_label text m, expanded rule.pattern rule.replacement text m)) (match_of rule.pattern text)

abbrev pub replaced : RuleSettings → LabelList → LabelList
replaced rule labels = option_map_or (λ e. with_named labels e.0 e.1) (expansions rule (input_of rule labels)) labels

-- ---- hashmod

-- the last eight bytes of the digest, the highest first
abbrev pub hash_of : List ℕ → ℕ
hash_of text = from_be_bytes w64 (drop 8 (md5 text))

abbrev pub hashed : RuleSettings → LabelList → LabelList
hashed rule labels = with_label labels rule.target_label (decimal (hash_of (input_of rule labels) % rule.modulus))

-- ---- labelmap, labeldrop and labelkeep

-- the other name and the text of a label whose name matches
abbrev pub copy_of : RuleSettings → LabelList → List ℕ → Option (List ℕ × List ℕ)
copy_of rule labels name = option_map (λ e. (e.1, label_text labels name)) (expansions rule name)

-- one label after the other gets its text, so the last of equal names stays
abbrev pub with_copies : LabelList → List (List ℕ × List ℕ) → LabelList
with_copies labels [] = labels
with_copies labels (c ∷ cs) = with_copies (with_named labels c.0 c.1) cs

-- names and texts are those before the rule
abbrev pub mapped : RuleSettings → LabelList → LabelList
mapped rule labels = with_copies labels (filter_map (copy_of rule labels) (names_of labels))

-- ---- all actions

abbrev pub keep_if : Bool → LabelList → Option LabelList
keep_if keep labels = if keep then Some labels else None

abbrev pub input_matches : RuleSettings → LabelList → Bool
input_matches rule labels = matches rule.pattern (input_of rule labels)

abbrev pub input_is_target : RuleSettings → LabelList → Bool
input_is_target rule labels = bytes_eq (input_of rule labels) (label_text labels rule.target_label)

abbrev pub effect_of : Action → RuleSettings → LabelList → Option LabelList
effect_of Replace rule labels = Some (replaced rule labels)
effect_of Keep rule labels = keep_if (input_matches rule labels) labels
effect_of Drop rule labels = keep_if (not (input_matches rule labels)) labels
effect_of KeepEqual rule labels = keep_if (input_is_target rule labels) labels
effect_of DropEqual rule labels = keep_if (not (input_is_target rule labels)) labels
effect_of HashMod rule labels = Some (hashed rule labels)
effect_of LabelMap rule labels = Some (mapped rule labels)
effect_of LabelDrop rule labels = Some (filter (λ l. not (matches rule.pattern l.0)) labels)
effect_of LabelKeep rule labels = Some (filter (λ l. matches rule.pattern l.0) labels)

unfoldable pub effect : RuleSettings → LabelList → Option LabelList
effect rule labels = effect_of rule.action rule labels
