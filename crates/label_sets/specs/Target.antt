-- Final targets: what is kept of a label set once it is finished, and the text of its group, in the form of
-- a target group of Prometheus: `{"labels":{..},"targets":["ADDRESS"]}`.
use Rattle.std.specs.Prelude.{ℕ, List, [], Bool, not, ◌||◌, codes, filter, if◌then◌else◌, nat_eq, IsTrue}
use Rattle.std.specs.List.{starts_with, list_all}
use Rattle.std.specs.Str.{bytes_eq}
use Rattle.serde_json.specs.Data.{Data, string, array, object, no_items, item, no_members, member}
use Rattle.serde_json.specs.Written.{compact_text}
use Rattle.label_sets.specs.Labels.{LabelList, label_text, with_label, is_some_text, IsLabelSet}
use Rattle.label_sets.specs.Written.{labels_data}

-- an address, and the labels of the group's text
pub record FinalTarget : Type 0 where
  pub address : List ℕ
  pub labels : LabelList

-- a public label, or one that says how to scrape
abbrev pub is_group_name : List ℕ → Bool
is_group_name name =
    not (starts_with nat_eq name (codes "__")) || bytes_eq name (codes "__scheme__") || bytes_eq name (codes "__metrics_path__") || starts_with nat_eq name (codes "__param_")

-- `instance` is the address where it is missing
abbrev pub with_instance : LabelList → LabelList
with_instance labels = if bytes_eq (label_text labels (codes "instance")) [] then with_label labels (codes "instance") (label_text labels (codes "__address__")) else labels

abbrev pub group_labels : LabelList → LabelList
group_labels labels = filter (λ l. is_group_name l.0) (with_instance labels)

-- the target has an address, and its labels are a set of a group's labels with an `instance`
pub record IsFinal (target : FinalTarget) : Type 0 where
  pub address : IsTrue (is_some_text target.address)
  pub labels : IsLabelSet target.labels
  pub of_group : IsTrue (list_all (λ l. is_group_name l.0) target.labels)
  pub instance : IsTrue (is_some_text (label_text target.labels (codes "instance")))

-- what a target answers for a name
abbrev pub target_label : FinalTarget → List ℕ → List ℕ
target_label target name = if bytes_eq name (codes "__address__") then target.address else label_text target.labels name

abbrev pub target_data : FinalTarget → Data
target_data target = object (member (codes "labels") (labels_data target.labels) (member (codes "targets") (array (item (string target.address) no_items)) no_members))

abbrev pub target_text : FinalTarget → List ℕ
target_text target = compact_text (target_data target)
