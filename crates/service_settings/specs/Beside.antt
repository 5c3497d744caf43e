-- The intervals of sources stand beside the sources of the configuration's jobs.
use Rattle.std.specs.Prelude.{◌≡◌, ℕ, List, length, map, Ok}
use Rattle.serde_json.specs.Data.{Data}
use Rattle.sd_documents.specs.Config.{ConfigData, JobData, config_said, config_read}

-- how many URLs each job has
abbrev pub url_counts : ConfigData → List ℕ
url_counts config = map (λ (job : JobData). length job.parts.http_urls) config.jobs

-- where the data is a configuration, each job has as many intervals as URLs
abbrev pub AreBeside : Data → List (List ℕ) → Type 0
AreBeside d refresh = (config : ConfigData) → config_said d ≡ Ok config → map length refresh ≡ url_counts config

-- the same of the document's bytes
abbrev pub AreBesideUrls : List ℕ → List (List ℕ) → Type 0
AreBesideUrls bytes refresh = (config : ConfigData) → config_read bytes ≡ Ok config → map length refresh ≡ url_counts config
