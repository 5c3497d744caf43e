-- The members of a scrape config that its collectors follow: all but those that say how its targets are found, relabelled and spread
-- (Prometheus's configuration documentation, `<scrape_config>`: `static_configs`, `relabel_configs`, and a list of service discovery
-- configurations for each kind, `http_sd_configs` and `file_sd_configs` among them). `metric_relabel_configs` are followed.
use Rattle.std.specs.Prelude.{ℕ, List, Bool, ◌||◌, nat_eq, codes}
use Rattle.std.specs.Str.{bytes_eq}
use Rattle.std.specs.List.{ends_with}
use Rattle.serde_json.specs.Data.{Members}
use Rattle.json_values.specs.Members.{members_but}

abbrev pub is_done_here : List ℕ → Bool
is_done_here name =
    bytes_eq name (codes "relabel_configs") || bytes_eq name (codes "spread") || bytes_eq name (codes "static_configs") || ends_with nat_eq name (codes "_sd_configs")

-- the others, as they are
abbrev pub kept_of : Members → Members
kept_of = members_but is_done_here
