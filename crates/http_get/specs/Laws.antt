-- What holds of the names of a scrape's parameters.
use Rattle.std.specs.Prelude.{◌≡◌, ℕ, List, Bool, ◌||◌}
use Rattle.std.specs.List.{list_any}
use Rattle.std.specs.Str.{bytes_eq}
use Rattle.label_sets.specs.Labels.{LabelList, label_text, IsAscending, IsLabelSet, is_some_text}
use Rattle.sd_documents.specs.declared.config.Param.{Param}
use Rattle.sd_documents.specs.FirstLabels.{param_label}
use Rattle.http_get.specs.Queries.{parameter_names}

-- the job has a parameter of the name, or the target has its label
abbrev pub is_parameter : List Param → LabelList → List ℕ → Bool
is_parameter params labels name = list_any (λ (p : Param). bytes_eq name p.name) params || is_some_text (label_text labels (param_label name))

-- the names of all parameters and no others, in byte order, each once
pub record AreAllNames (params : List Param) (labels : LabelList) (names : List (List ℕ)) : Type 0 where
  pub ascending : IsAscending names
  pub members : (name : List ℕ) → list_any (bytes_eq name) names ≡ is_parameter params labels name

abbrev pub NamesAreAll : Type 0
NamesAreAll = (params : List Param) (labels : LabelList) → IsLabelSet labels → AreAllNames params labels (parameter_names params labels)
