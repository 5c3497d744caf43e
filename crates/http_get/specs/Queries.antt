-- The query of a scrape: the parameters of its job, as Prometheus asks with them. A target's label `__param_<name>` stands in
-- place of the first value of the parameter.
use Rattle.std.specs.Prelude.{ℕ, List, [], ◌∷◌, ◌++◌, map, drop, codes, if◌then◌else◌}
use Rattle.std.specs.Option.{option_map_or}
use Rattle.std.specs.List.{flat_map, fold}
use Rattle.std.specs.Str.{bytes_eq}
use Rattle.std.specs.BTreeSet.{insert_key}
use Rattle.form_urlencoded.specs.Form.{extend_pairs}
use Rattle.label_sets.specs.Labels.{LabelList, label_text, byte_cmp}
use Rattle.sd_documents.specs.declared.config.Param.{Param}
use Rattle.sd_documents.specs.FirstLabels.{param_label}
use Rattle.http_get.specs.Prefixes.{behind}

-- ---- the names

-- names in byte order, with one more where it belongs, unless it is there
abbrev pub with_name : List (List ℕ) → List ℕ → List (List ℕ)
with_name names name = insert_key byte_cmp names name

abbrev pub with_names : List (List ℕ) → List (List ℕ) → List (List ℕ)
with_names names more = fold with_name names more

-- the names of the parameters that have a label
abbrev pub labelled_names : LabelList → List (List ℕ)
labelled_names [] = []
labelled_names (l ∷ labels) = option_map_or (λ name. name ∷ labelled_names labels) (behind (codes "__param_") l.0) (labelled_names labels)

-- all names, each once, in byte order
abbrev pub parameter_names : List Param → LabelList → List (List ℕ)
parameter_names params labels = with_names [] (map (λ (p : Param). p.name) params ++ labelled_names labels)

-- ---- the values

-- the values that the job gives: those of the first parameter of the name
abbrev pub job_values : List Param → List ℕ → List (List ℕ)
job_values [] name = []
job_values (param ∷ params) name = if bytes_eq param.name name then param.values else job_values params name

-- the label's text in place of the first value
abbrev pub with_first : List ℕ → List (List ℕ) → List (List ℕ)
with_first [] values = values
with_first (b ∷ bs) values = (b ∷ bs) ∷ drop 1 values

abbrev pub values_of : List Param → LabelList → List ℕ → List (List ℕ)
values_of params labels name = with_first (label_text labels (param_label name)) (job_values params name)

-- ---- the query

-- the name with each of the values
abbrev pub named : List ℕ → List (List ℕ) → List (List ℕ × List ℕ)
named name values = map (λ value. (name, value)) values

abbrev pub query_pairs : List Param → LabelList → List (List ℕ × List ℕ)
query_pairs params labels = flat_map (λ name. named name (values_of params labels name)) (parameter_names params labels)

-- the pairs as a web form writes them. Each has at least the byte `=`
abbrev pub query_of : List Param → LabelList → List ℕ
query_of params labels = extend_pairs [] (query_pairs params labels)
