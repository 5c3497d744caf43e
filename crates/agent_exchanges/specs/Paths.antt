-- The paths that are asked: those of docs/operate/HTTP.md, and of Prometheus's HTTP API (https://prometheus.io/docs/prometheus/latest/querying/api/),
-- each behind the path of a server's URL.
use Rattle.std.specs.Prelude.{ℕ, List, [], ◌++◌, Bool, true, false, codes}
use Rattle.std.specs.Fmt.{decimal}
use Rattle.form_urlencoded.specs.Form.{append_pair}

abbrev pub behind : List ℕ → List ℕ → List ℕ
behind base path = base ++ path

abbrev pub jobs_path : List ℕ → List ℕ
jobs_path base = behind base (codes "/jobs")

abbrev pub reports_path : List ℕ → List ℕ
reports_path base = behind base (codes "/reports")

abbrev pub join_path : List ℕ → List ℕ
join_path base = behind base (codes "/collectors")

abbrev pub active_path : List ℕ → List ℕ
active_path base = behind base (codes "/api/v1/targets?state=active")

-- a list that is only shown says so
abbrev pub taking : Bool → List ℕ
taking true = codes ""
taking false = codes "&take=false"

abbrev pub list_path : List ℕ → List ℕ → List ℕ → Bool → List ℕ
list_path base link name takes = (((base ++ link) ++ codes "?") ++ append_pair [] (codes "collector_id") name) ++ taking takes

-- a range selector: the points that are stored, as they are
abbrev pub range_text : List ℕ → ℕ → List ℕ
range_text metric millis = metric ++ (codes "[" ++ (decimal millis ++ codes "ms]"))

abbrev pub range_path : List ℕ → List ℕ → ℕ → List ℕ
range_path base metric millis = (base ++ codes "/api/v1/query?") ++ append_pair [] (codes "query") (range_text metric millis)
