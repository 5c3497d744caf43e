-- The parts of a document by name.
use Rattle.std.specs.Prelude.{ℕ, List, codes}
use Rattle.sd_documents.specs.declared.error.Member.{Member}
use Rattle.sd_documents.specs.declared.error.Member.TheVariants.{ScrapeConfigs, JobName, Number, MetricsPath, Scheme, TargetLimit, Params, StaticConfigs, HttpSdConfigs, RelabelConfigs, Groups}
use Rattle.sd_documents.specs.declared.error.Limit.{Limit}
use Rattle.sd_documents.specs.declared.error.Limit.TheVariants.{Jobs, Sources, Rules, Targets}

abbrev pub member_name : Member → List ℕ
member_name ScrapeConfigs = codes "scrape_configs"
member_name JobName = codes "job_name"
member_name Number = codes "number"
member_name MetricsPath = codes "metrics_path"
member_name Scheme = codes "scheme"
member_name TargetLimit = codes "target_limit"
member_name Params = codes "params"
member_name StaticConfigs = codes "static_configs"
member_name HttpSdConfigs = codes "http_sd_configs"
member_name RelabelConfigs = codes "relabel_configs"
member_name Groups = codes "groups"

abbrev pub limit_name : Limit → List ℕ
limit_name Jobs = codes "jobs"
limit_name Sources = codes "sources"
limit_name Rules = codes "rules"
limit_name Targets = codes "targets"
