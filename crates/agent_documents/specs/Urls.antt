-- The URL of a target as Prometheus makes it of the target's labels, before it is escaped:
-- https://prometheus.io/docs/prometheus/latest/configuration/configuration/#relabel_config says of the labels `__scheme__`, `__address__`,
-- `__metrics_path__` and `__param_NAME` what they are.
use Rattle.std.specs.Prelude.{ℕ, ◌==◌, List, [], ◌∷◌, ◌++◌, Option, Some, None, codes, nat_eq, if◌then◌else◌}
use Rattle.std.specs.List.{cons_option, starts_with}
use Rattle.label_sets.specs.Labels.{LabelList}
use Rattle.label_sets.specs.Target.{FinalTarget, target_label}
use Rattle.agent_core.specs.declared.url.Parameter.{Parameter}
use Rattle.agent_core.specs.declared.url.Url.{Url}

-- the slash that a path lacks in front, where it is not empty
abbrev pub slash_before : List ℕ → List ℕ
slash_before [] = codes ""
slash_before (b ∷ bs) = if b == 47 then codes "" else codes "/"

-- what stands before the query
abbrev pub base_of : FinalTarget → List ℕ
base_of target =
    (((target_label target (codes "__scheme__") ++ codes "://") ++ target_label target (codes "__address__")) ++ slash_before (target_label target (codes "__metrics_path__")))
    ++ target_label target (codes "__metrics_path__")

-- a parameter, where a label says one
abbrev pub parameter_of : List ℕ → List ℕ → Option Parameter
parameter_of name value = if starts_with nat_eq name (codes "__param_") then Some (record { name = name; value = value }) else None

abbrev pub parameters_of : LabelList → List Parameter
parameters_of [] = []
parameters_of (label ∷ labels) = cons_option (parameter_of label.0 label.1) (parameters_of labels)

abbrev pub url_of : FinalTarget → Url
url_of target = record { base = base_of target; parameters = parameters_of target.labels }
