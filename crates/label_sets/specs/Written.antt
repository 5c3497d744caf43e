-- The JSON texts of label sets and of final targets, as `serde_json` writes them: compact (RFC 8259), the
-- members in byte order.
use Rattle.std.specs.Prelude.{ℕ, List, [], ◌∷◌}
use Rattle.serde_json.specs.Data.{Data, string, object, Members, no_members, member}
use Rattle.serde_json.specs.Written.{compact_text}
use Rattle.label_sets.specs.Labels.{LabelList}

abbrev pub label_members : LabelList → Members
label_members [] = no_members
label_members (l ∷ labels) = member l.0 (string l.1) (label_members labels)

-- one object, with a member for each label
abbrev pub labels_data : LabelList → Data
labels_data labels = object (label_members labels)

abbrev pub labels_text : LabelList → List ℕ
labels_text labels = compact_text (labels_data labels)
