-- How a target is asked for its metrics, as Prometheus does: at its address, for the path and the parameters that its labels say.
use Rattle.std.specs.Prelude.{ℕ, List, [], ◌∷◌, ◌++◌, Option, Some, None, option_and_then, slice_get, codes, if◌then◌else◌}
use Rattle.std.specs.Str.{bytes_eq}
use Rattle.label_sets.specs.Target.{FinalTarget, target_label}
use Rattle.sd_documents.specs.declared.config.Job.{Job}
use Rattle.sd_documents.specs.declared.config.Param.{Param}
use Rattle.http_get.specs.declared.get.Get.{Get}
use Rattle.http_get.specs.Paths.{escaped_path}
use Rattle.http_get.specs.Queries.{query_of}

-- behind a question mark, unless the query is empty
abbrev pub with_query : List ℕ → List ℕ → List ℕ
with_query path query = if bytes_eq query [] then path else path ++ 63 ∷ query

abbrev pub request_path : List Param → FinalTarget → List ℕ
request_path params target = with_query (escaped_path (target_label target (codes "__metrics_path__"))) (query_of params target.labels)

-- nothing but over `http`
abbrev pub get_said : List Param → FinalTarget → Option Get
get_said params target =
    if bytes_eq (target_label target (codes "__scheme__")) (codes "http")
    then Some (record { address = target_label target (codes "__address__"); path = request_path params target })
    else None

-- the same for the job at an index
abbrev pub get_said_in : List Job → ℕ → FinalTarget → Option Get
get_said_in jobs index target = option_and_then (λ (job : Job). get_said job.params target) (slice_get jobs index)
