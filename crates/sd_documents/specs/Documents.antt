-- The documents that are accepted, and what they say, in the words of Prometheus's configuration.
use Rattle.std.specs.Prelude.{◌≡◌, ◌≢◌, ◌<◌, ◌≤◌, ◌^◌, ℕ, List, [], ◌∷◌, length, map, sum_by, Some, IsTrue, false, codes, ◌⊎◌}
use Rattle.std.specs.Option.{MatchOption}
use Rattle.serde_json.specs.Data.{Data, string, array, object, Items, no_items, item, Members, no_members, member}
use Rattle.serde_json.specs.Find.{get}
use Rattle.serde_json.specs.Written.{has_float}
use Rattle.serde_json.specs.Events.{items_len}
use Rattle.json_values.specs.Spelling.{number_data, list_data}
use Rattle.label_sets.specs.Name.{is_label_name}
use Rattle.label_sets.specs.Labels.{LabelList, label_text}
use Rattle.sd_documents.specs.declared.limits.TheConstants.{MOST_JOBS, MOST_URLS, MOST_RULES, MOST_TARGETS}
use Rattle.sd_documents.specs.declared.group.Group.{Group}
use Rattle.sd_documents.specs.declared.config.Param.{Param}
use Rattle.sd_documents.specs.Groups.{filled}
use Rattle.sd_documents.specs.Config.{JobData, all_objects, is_unsupported}
use Rattle.sd_documents.specs.Limits.{are_new}

-- each item is what stands at its index
abbrev pub AreEach : {A : Type 0} → (Data → A → Type 0) → Items → List A → Type 0
AreEach is no_items [] = Unit {0}
AreEach is no_items (x ∷ xs) = ⊥
AreEach is (item d ds) [] = ⊥
AreEach is (item d ds) (x ∷ xs) = is d x × AreEach is ds xs

-- a list of as many items, each what stands at its index
abbrev pub IsListOf : {A : Type 0} → (Data → A → Type 0) → List A → Data → Type 0
IsListOf is xs d = (ds : Items) × (d ≡ array ds) × AreEach is ds xs

-- ---- groups

-- the object has a member of this name and value
abbrev pub HasMember : List ℕ → Data → Members → Type 0
HasMember name d no_members = ⊥
HasMember name d (member other e ms) = ((name ≡ other) × (d ≡ e)) ⊎ HasMember name d ms

-- The labels that an object says: its names are label names, its values texts, and each label is a member. A name that
-- has one text alone has this text.
pub record AreLabels (ms : Members) (labels : LabelList) : Type 0 where
  pub named : (name : List ℕ) (d : Data) → HasMember name d ms → IsTrue (is_label_name name)
  pub texts : (name : List ℕ) (d : Data) → HasMember name d ms → (text : List ℕ) × (d ≡ string text)
  pub members : (name : List ℕ) → label_text labels name ≢ [] → HasMember name (string (label_text labels name)) ms
  pub all : (name text : List ℕ) → HasMember name (string text) ms → ((d : Data) → HasMember name d ms → d ≡ string text) → label_text labels name ≡ text

-- A group: its targets and its labels, empty where the member is absent or null.
pub record IsGroup (d : Data) (group : Group) : Type 0 where
  pub shape : (ms : Members) × (d ≡ object ms)
  pub targets : MatchOption (filled (get (codes "targets") d)) (group.targets ≡ []) (λ v. v ≡ list_data string group.targets)
  pub labels : MatchOption (filled (get (codes "labels") d)) (group.labels ≡ []) (λ v. (ms : Members) × (v ≡ object ms) × AreLabels ms group.labels)

abbrev pub HaveFewTargets : List Group → Type 0
HaveFewTargets groups = sum_by (λ (group : Group). length group.targets) groups ≤ MOST_TARGETS

-- a document of groups
pub record AreGroups (d : Data) (groups : List Group) : Type 0 where
  pub each : IsListOf IsGroup groups d
  pub few : HaveFewTargets groups

-- ---- scrape configs

-- the parameters as an object from names to lists of texts
abbrev pub params_data : List Param → Members
params_data [] = no_members
params_data (param ∷ params) = member param.name (list_data string param.values) (params_data params)

-- an object whose `url` is the text
abbrev pub HasUrl : Data → List ℕ → Type 0
HasUrl d url = get (codes "url") d ≡ Some (string url)

-- a scrape config, and the job that it says
pub record IsJob (d : Data) (job : JobData) : Type 0 where
  pub name : get (codes "job_name") d ≡ Some (string job.settings.name)
  pub named : job.settings.name ≢ []
  pub path : MatchOption (get (codes "metrics_path") d) (job.settings.metrics_path ≡ codes "/metrics") (λ v. v ≡ string job.settings.metrics_path)
  pub scheme : MatchOption (get (codes "scheme") d) (job.settings.scheme ≡ codes "http") (λ v. v ≡ string job.settings.scheme)
  pub limit : MatchOption (get (codes "target_limit") d) (job.settings.target_limit ≡ 0) (λ v. v ≡ number_data job.settings.target_limit)
  pub limited : job.settings.target_limit < 2 ^ 32
  pub params : MatchOption (get (codes "params") d) (job.parts.params ≡ []) (λ v. v ≡ object (params_data job.parts.params))
  pub groups : MatchOption (get (codes "static_configs") d) (job.parts.static_groups ≡ []) (λ v. AreGroups v job.parts.static_groups)
  pub urls : MatchOption (get (codes "http_sd_configs") d) (job.parts.http_urls ≡ []) (IsListOf HasUrl job.parts.http_urls)
  pub few_urls : length job.parts.http_urls ≤ MOST_URLS
  pub rules : MatchOption (get (codes "relabel_configs") d) (job.parts.rules ≡ no_items) (λ v. v ≡ array job.parts.rules)
  pub objects : IsTrue (all_objects job.parts.rules)
  pub few_rules : items_len job.parts.rules ≤ MOST_RULES
  -- no number is a float, and no member is for another service discovery
  pub whole : has_float d ≡ false
  pub supported : (name : List ℕ) (ms : Members) (v : Data) → d ≡ object ms → HasMember name v ms → is_unsupported name ≡ false

-- a configuration, and the jobs that it says
pub record IsConfig (d : Data) (jobs : List JobData) : Type 0 where
  pub shape : (ms : Members) × (d ≡ object ms)
  pub each : MatchOption (get (codes "scrape_configs") d) (jobs ≡ []) (IsListOf IsJob jobs)
  pub few : length jobs ≤ MOST_JOBS
  pub distinct : IsTrue (are_new [] (map (λ (job : JobData). job.settings.name) jobs))
