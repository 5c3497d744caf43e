-- The configuration, in the JSON spelling of Prometheus's configuration file: an object whose member `scrape_configs`
-- is the list of scrape configs. Where it is absent the list is empty. Here null is a value of another kind, and no
-- absent member.
use Rattle.std.specs.Prelude.{ℕ, ◌+◌, List, [], ◌∷◌, ◌++◌, length, map, Bool, true, not, ◌&&◌, nat_le, nat_eq, Option, Some, None, option_and_then, unwrap_or, Result, Ok, Err, is_some, codes, if◌then◌else◌}
use Rattle.std.specs.Option.{ok_or, option_map_or}
use Rattle.std.specs.Str.{bytes_eq}
use Rattle.std.specs.List.{ends_with, list_any}
use Rattle.serde_json.specs.Data.{Data, object, Items, no_items, item, Members, no_members, member, put}
use Rattle.serde_json.specs.Find.{get, as_str, as_array, as_object}
use Rattle.serde_json.specs.Written.{has_float}
use Rattle.serde_json.specs.Events.{items_len}
use Rattle.serde_json.specs.View.{view, items_view}
use Rattle.json_values.specs.Spelling.{number_in}
use Rattle.sd_documents.specs.declared.error.SdError.{SdError}
use Rattle.sd_documents.specs.declared.error.SdError.TheVariants.{Shape, RepeatedJob, UnsupportedDiscovery, TooMany}
use Rattle.sd_documents.specs.declared.error.Member.TheVariants.{ScrapeConfigs, JobName, Number, MetricsPath, Scheme, TargetLimit, Params, StaticConfigs, HttpSdConfigs, RelabelConfigs}
use Rattle.sd_documents.specs.declared.error.Member.{Member}
use Rattle.sd_documents.specs.declared.error.Limit.TheVariants.{Jobs, Sources, Rules}
use Rattle.sd_documents.specs.declared.limits.TheConstants.{MOST_JOBS, MOST_URLS, MOST_RULES}
use Rattle.sd_documents.specs.declared.group.Group.{Group}
use Rattle.sd_documents.specs.declared.config.Config.{Config}
use Rattle.sd_documents.specs.declared.config.Job.{Job}
use Rattle.sd_documents.specs.declared.config.Param.{Param}
use Rattle.sd_documents.specs.Reading.{◌>>=◌, json_said, each_said, text_said, texts_said}
use Rattle.sd_documents.specs.Groups.{groups_said}

-- the first members of a scrape config
pub record SettingsData : Type 0 where
  pub name : List ℕ
  pub metrics_path : List ℕ
  pub scheme : List ℕ
  pub target_limit : ℕ

-- its other members
pub record PartsData : Type 0 where
  pub params : List Param
  pub static_groups : List Group
  pub http_urls : List (List ℕ)
  pub rules : Items

pub record JobData : Type 0 where
  pub settings : SettingsData
  pub parts : PartsData

-- the jobs, and the object from job name to scrape config
pub record ConfigData : Type 0 where
  pub jobs : List JobData
  pub as_read : Data

-- a job, its rules seen as the data that they are
abbrev pub job_data : Job → JobData
job_data job = record {
  settings = record { name = job.name; metrics_path = job.metrics_path; scheme = job.scheme; target_limit = job.target_limit };
  parts = record { params = job.params; static_groups = job.static_groups; http_urls = job.http_urls; rules = items_view job.rules };
}

abbrev pub config_data : Config → ConfigData
config_data config = record { jobs = map job_data config.jobs; as_read = view config.as_read }

-- ---- the members of a scrape config

-- a text that is not empty
abbrev pub name_said : ℕ → Option Data → Result (List ℕ) SdError
name_said index found =
    ok_or (option_and_then as_str found) (Shape index JobName) >>= λ name.
    if bytes_eq name [] then Err (Shape index JobName) else Ok name

-- a text, or the default where it is absent
abbrev pub text_or : List ℕ → ℕ → Member → Option Data → Result (List ℕ) SdError
text_or default index part None = Ok default
text_or default index part (Some d) = text_said index part d

abbrev pub limit_said : ℕ → Option Data → Result ℕ SdError
limit_said index None = Ok 0
limit_said index (Some d) = ok_or (number_in d) (Shape index TargetLimit)

abbrev pub params_from : ℕ → Members → Result (List Param) SdError
params_from index no_members = Ok []
params_from index (member name d ms) =
    texts_said index Params d >>= λ values. params_from index ms >>= λ others. Ok (record { name = name; values = values } ∷ others)

-- an object from names to lists of texts
abbrev pub params_said : ℕ → Option Data → Result (List Param) SdError
params_said index None = Ok []
params_said index (Some d) = ok_or (as_object d) (Shape index Params) >>= params_from index

abbrev pub static_said : ℕ → Option Data → Result (List Group) SdError
static_said index None = Ok []
static_said index (Some d) = groups_said index StaticConfigs d

-- an object with the member `url`, a text
abbrev pub url_said : ℕ → Data → Result (List ℕ) SdError
url_said index d = ok_or (option_and_then as_str (get (codes "url") d)) (Shape index HttpSdConfigs)

abbrev pub few_urls : List (List ℕ) → Result (List (List ℕ)) SdError
few_urls urls = if nat_le (length urls) MOST_URLS then Ok urls else Err (TooMany Sources)

abbrev pub urls_said : ℕ → Option Data → Result (List (List ℕ)) SdError
urls_said index None = Ok []
urls_said index (Some d) = ok_or (as_array d) (Shape index HttpSdConfigs) >>= each_said (url_said index) >>= few_urls

abbrev pub all_objects : Items → Bool
all_objects no_items = true
all_objects (item d ds) = is_some (as_object d) && all_objects ds

abbrev pub few_rules : Items → Result Items SdError
few_rules ds = if nat_le (items_len ds) MOST_RULES then Ok ds else Err (TooMany Rules)

-- a list of objects, which are read with the rules
abbrev pub rules_said : ℕ → Option Data → Result Items SdError
rules_said index None = Ok no_items
rules_said index (Some d) =
    ok_or (as_array d) (Shape index RelabelConfigs) >>= λ ds.
    if all_objects ds then few_rules ds else Err (Shape index RelabelConfigs)

-- a service discovery other than by HTTP
abbrev pub is_unsupported : List ℕ → Bool
is_unsupported name = ends_with nat_eq name (codes "_sd_configs") && not (bytes_eq name (codes "http_sd_configs"))

-- the first such name in byte order
abbrev pub unsupported_in : Members → Option (List ℕ)
unsupported_in no_members = None
unsupported_in (member name d ms) = if is_unsupported name then Some name else unsupported_in ms

-- ---- scrape configs

unfoldable pub settings_said : ℕ → Data → Result SettingsData SdError
settings_said index d =
    name_said index (get (codes "job_name") d) >>= λ name.
    text_or (codes "/metrics") index MetricsPath (get (codes "metrics_path") d) >>= λ metrics_path.
    text_or (codes "http") index Scheme (get (codes "scheme") d) >>= λ scheme.
    limit_said index (get (codes "target_limit") d) >>= λ target_limit.
    Ok (record { name = name; metrics_path = metrics_path; scheme = scheme; target_limit = target_limit })

unfoldable pub parts_said : ℕ → Data → Result PartsData SdError
parts_said index d =
    params_said index (get (codes "params") d) >>= λ params.
    static_said index (get (codes "static_configs") d) >>= λ static_groups.
    urls_said index (get (codes "http_sd_configs") d) >>= λ http_urls.
    rules_said index (get (codes "relabel_configs") d) >>= λ rules.
    Ok (record { params = params; static_groups = static_groups; http_urls = http_urls; rules = rules })

-- the job, where no member is for another service discovery
abbrev pub supported : Data → JobData → Result JobData SdError
supported d job = option_map_or (λ name. Err (UnsupportedDiscovery name)) (option_and_then unsupported_in (as_object d)) (Ok job)

unfoldable pub members_said : ℕ → Data → Result JobData SdError
members_said index d =
    settings_said index d >>= λ settings.
    parts_said index d >>= λ parts.
    supported d (record { settings = settings; parts = parts })

-- An object without a number that is no integer of 64 bits, at any depth.
unfoldable pub job_said : ℕ → Data → Result JobData SdError
job_said index d =
    if is_some (as_object d) then (if has_float d then Err (Shape index Number) else members_said index d) else Err (Shape index JobName)

-- ---- the configuration

-- an earlier job has the name
abbrev pub is_taken : List JobData → List ℕ → Bool
is_taken jobs name = list_any (λ (job : JobData). bytes_eq job.settings.name name) jobs

abbrev pub next_job : ℕ → List JobData → JobData → Result (List JobData) SdError
next_job index jobs job = if is_taken jobs job.settings.name then Err (RepeatedJob index) else Ok (jobs ++ job ∷ [])

-- the jobs before this index, and that of the entry there
abbrev pub with_job : ℕ → List JobData → Data → Result (List JobData) SdError
with_job index jobs d = job_said index d >>= next_job index jobs

-- the jobs before this index, and those of the entries from there on
abbrev pub jobs_from : ℕ → List JobData → Items → Result (List JobData) SdError
jobs_from index jobs no_items = Ok jobs
jobs_from index jobs (item d ds) = with_job index jobs d >>= λ more. jobs_from (index + 1) more ds

abbrev pub entries_in : Option Data → Result Items SdError
entries_in None = Ok no_items
entries_in (Some d) = ok_or (as_array d) (Shape 0 ScrapeConfigs)

abbrev pub entries_said : Data → Result Items SdError
entries_said d = if is_some (as_object d) then entries_in (get (codes "scrape_configs") d) else Err (Shape 0 ScrapeConfigs)

abbrev pub few_entries : Items → Result Items SdError
few_entries entries = if nat_le (items_len entries) MOST_JOBS then Ok entries else Err (TooMany Jobs)

-- the scrape configs, which are not too many
abbrev pub listed_entries : Data → Result Items SdError
listed_entries d = entries_said d >>= few_entries

abbrev pub name_of : Data → List ℕ
name_of d = unwrap_or (option_and_then as_str (get (codes "job_name") d)) []

-- each entry under its name
abbrev pub as_read_from : Members → Items → Members
as_read_from before no_items = before
as_read_from before (item d ds) = as_read_from (put (name_of d) d before) ds

unfoldable pub config_said : Data → Result ConfigData SdError
config_said d =
    listed_entries d >>= λ entries.
    jobs_from 0 [] entries >>= λ jobs.
    Ok (record { jobs = jobs; as_read = object (as_read_from no_members entries) })

-- the document of a configuration
abbrev pub config_read : List ℕ → Result ConfigData SdError
config_read bytes = json_said bytes >>= config_said
