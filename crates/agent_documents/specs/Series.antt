-- Series by their labels.
use Rattle.std.specs.Prelude.{◌≡◌, ℕ, List, [], ◌∷◌, Result, Ok, Err, codes, nat_eq, if◌then◌else◌}
use Rattle.std.specs.List.{starts_with}
use Rattle.std.specs.Option.{ok_or}
use Rattle.serde_json.specs.Data.{Data, Members, no_members, member}
use Rattle.serde_json.specs.Find.{as_object, as_str}
use Rattle.label_sets.specs.Labels.{LabelList, with_label, without}
use Rattle.label_sets.specs.Name.{is_label_name}
use Rattle.label_sets.specs.Written.{labels_text}
use Rattle.agent_core.specs.declared.target.Series.{Series}
use Rattle.agent_documents.specs.Reading.{◌>>=◌}
use Rattle.agent_documents.specs.declared.error.DocumentError.{DocumentError}
use Rattle.agent_documents.specs.declared.error.DocumentError.TheVariants.{Shape}
use Rattle.agent_documents.specs.declared.error.Part.TheVariants.{Metric}

-- the series of a label set
abbrev pub series_of : LabelList → Series
series_of labels = record { labels = labels_text labels }

-- labels without those of these entries that begin with `__`
abbrev pub without_private : LabelList → LabelList → LabelList
without_private labels [] = labels
without_private labels (l ∷ entries) = without_private (if starts_with nat_eq l.0 (codes "__") then without labels l.0 else labels) entries

-- the labels that are stored with samples
abbrev pub public_labels : LabelList → LabelList
public_labels labels = without_private labels labels

-- one label more: a text, under the name of a label
abbrev pub label_said : LabelList → List ℕ → Data → Result LabelList DocumentError
label_said labels name d = ok_or (as_str d) (Shape Metric) >>= λ text. if is_label_name name then Ok (with_label labels name text) else Err (Shape Metric)

abbrev pub labels_from : LabelList → Members → Result LabelList DocumentError
labels_from labels no_members = Ok labels
labels_from labels (member name d ms) = label_said labels name d >>= λ more. labels_from more ms

-- the series that an object of labels says, without its name
abbrev pub metric_said : Data → Result Series DocumentError
metric_said d = ok_or (as_object d) (Shape Metric) >>= λ members. labels_from [] members >>= λ labels. Ok (series_of (without labels (codes "__name__")))

-- two label sets are one series only where they are equal
abbrev pub SeriesDecides : Type 0
SeriesDecides = (labels others : LabelList) → series_of labels ≡ series_of others → labels ≡ others
