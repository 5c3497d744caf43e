-- What holds of the documents that are accepted, and of the first labels of a target, in the words of the scrape config.
use Rattle.std.specs.Prelude.{◌≡◌, ◌≢◌, ℕ, ◌-◌, List, [], ◌∷◌, ◌++◌, Some, Ok, slice_get, slice_index_or, codes, IsTrue}
use Rattle.std.specs.List.{AllByRecursion}
use Rattle.serde_json.specs.Data.{Data}
use Rattle.label_sets.specs.Name.{is_label_name}
use Rattle.label_sets.specs.Labels.{LabelList, label_text}
use Rattle.sd_documents.specs.declared.group.Group.{Group}
use Rattle.sd_documents.specs.declared.config.Job.{Job}
use Rattle.sd_documents.specs.declared.config.Param.{Param}
use Rattle.sd_documents.specs.declared.error.Member.{Member}
use Rattle.sd_documents.specs.Groups.{groups_said}
use Rattle.sd_documents.specs.Config.{ConfigData, config_said}
use Rattle.sd_documents.specs.Documents.{AreGroups, IsConfig}
use Rattle.sd_documents.specs.FirstLabels.{param_label, first_labels}

-- the group has no label of the name
abbrev pub IsMissing : Group → List ℕ → Type 0
IsMissing group name = label_text group.labels name ≡ []

-- none of the parameters has the name
abbrev pub NoneIsNamed : List ℕ → List Param → Type 0
NoneIsNamed name params = AllByRecursion (λ (param : Param). param.name ≢ name) params

-- a name that no scrape config gives a label
pub record IsOther (name : List ℕ) : Type 0 where
  pub address : name ≢ codes "__address__"
  pub url : name ≢ codes "__meta_url"
  pub job : name ≢ codes "job"
  pub scheme : name ≢ codes "__scheme__"
  pub path : name ≢ codes "__metrics_path__"
  pub param : (rest : List ℕ) → name ≢ param_label rest

-- the labels are the first ones of a target that the source has in the group
pub record AreFirstLabels (job : Job) (group : Group) (target : List ℕ) (source : ℕ) (labels : LabelList) : Type 0 where
  -- `__address__` is the target's text
  pub address : label_text labels (codes "__address__") ≡ target
  -- `__meta_url` is the URL of the source, and the group's where the source has none
  pub url : source ≢ 0 → label_text labels (codes "__meta_url") ≡ slice_index_or job.http_urls (source - 1) []
  pub no_url : source ≡ 0 → label_text labels (codes "__meta_url") ≡ label_text group.labels (codes "__meta_url")
  -- any other label of the group stays
  pub stays : (name : List ℕ) → label_text group.labels name ≢ [] → name ≢ codes "__address__" → name ≢ codes "__meta_url" → label_text labels name ≡ label_text group.labels name
  -- what the group lacks of the job's name, its scheme and its path is the job's
  pub job_name : IsMissing group (codes "job") → label_text labels (codes "job") ≡ job.name
  pub scheme : IsMissing group (codes "__scheme__") → label_text labels (codes "__scheme__") ≡ job.scheme
  pub path : IsMissing group (codes "__metrics_path__") → label_text labels (codes "__metrics_path__") ≡ job.metrics_path
  -- a parameter that the group lacks has the first of its values
  pub param : (before later : List Param) (param : Param) (value : List ℕ) → job.params ≡ before ++ param ∷ later → NoneIsNamed param.name before → slice_get param.values 0 ≡ Some value → value ≢ [] → IsTrue (is_label_name (param_label param.name)) → IsMissing group (param_label param.name) → label_text labels (param_label param.name) ≡ value
  -- and no other label is made
  pub others : (name : List ℕ) → IsOther name → label_text labels name ≡ label_text group.labels name

abbrev pub FirstLabelsAreFirst : Type 0
FirstLabelsAreFirst = (job : Job) (group : Group) (target : List ℕ) (source : ℕ) → AreFirstLabels job group target source (first_labels job group target source)

-- ---- what is accepted

abbrev pub AcceptedAreConfigs : Type 0
AcceptedAreConfigs = (d : Data) (config : ConfigData) → config_said d ≡ Ok config → IsConfig d config.jobs

abbrev pub AcceptedAreGroups : Type 0
AcceptedAreGroups = (index : ℕ) (part : Member) (d : Data) (groups : List Group) → groups_said index part d ≡ Ok groups → AreGroups d groups
