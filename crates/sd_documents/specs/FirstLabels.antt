-- The first labels of a target, which the relabelling rules get: those that Prometheus gives a target of a scrape config.
use Rattle.std.specs.Prelude.{ℕ, ◌-◌, ◌==◌, List, [], ◌∷◌, ◌++◌, slice_get, slice_index_or, codes, if◌then◌else◌}
use Rattle.std.specs.Option.{option_map_or}
use Rattle.std.specs.Str.{bytes_eq}
use Rattle.label_sets.specs.Name.{is_label_name}
use Rattle.label_sets.specs.Labels.{LabelList, label_text, with_label}
use Rattle.sd_documents.specs.declared.group.Group.{Group}
use Rattle.sd_documents.specs.declared.config.Job.{Job}
use Rattle.sd_documents.specs.declared.config.Param.{Param}

-- the text for the name, where the name is missing
abbrev pub or_label : LabelList → List ℕ → List ℕ → LabelList
or_label labels name text = if bytes_eq (label_text labels name) [] then with_label labels name text else labels

-- Source 0 of a job is its static groups, and source 1 + i its i-th URL.
abbrev pub with_url : LabelList → List (List ℕ) → ℕ → LabelList
with_url labels urls source = if source == 0 then labels else with_label labels (codes "__meta_url") (slice_index_or urls (source - 1) [])

abbrev pub param_label : List ℕ → List ℕ
param_label name = codes "__param_" ++ name

-- the value, where the parameter makes a label name
abbrev pub with_value : LabelList → List ℕ → List ℕ → LabelList
with_value labels name value = if is_label_name (param_label name) then or_label labels (param_label name) value else labels

-- the first value of a parameter that has one
abbrev pub with_param : LabelList → Param → LabelList
with_param labels param = option_map_or (λ value. with_value labels param.name value) (slice_get param.values 0) labels

abbrev pub with_params : LabelList → List Param → LabelList
with_params labels [] = labels
with_params labels (param ∷ params) = with_params (with_param labels param) params

abbrev pub with_address : LabelList → List (List ℕ) → ℕ → List ℕ → LabelList
with_address labels urls source target = with_label (with_url labels urls source) (codes "__address__") target

-- what is missing of the job's name, its scheme and its path
abbrev pub with_settings : LabelList → Job → LabelList
with_settings labels job = or_label (or_label (or_label labels (codes "job") job.name) (codes "__scheme__") job.scheme) (codes "__metrics_path__") job.metrics_path

-- the group's labels, the URL and the target, and then what is still missing
abbrev pub first_labels : Job → Group → List ℕ → ℕ → LabelList
first_labels job group target source = with_params (with_settings (with_address group.labels job.http_urls source target) job) job.params
