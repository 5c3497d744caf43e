-- What the parts of a job say, its rules seen as the data that they are.
use Rattle.serde_json.specs.View.{items_view}
use Rattle.sd_documents.specs.declared.config.settings.Settings.{Settings}
use Rattle.sd_documents.specs.declared.config.parts.Parts.{Parts}
use Rattle.sd_documents.specs.Config.{SettingsData, PartsData}

abbrev pub settings_data : Settings → SettingsData
settings_data s = record { name = s.name; metrics_path = s.metrics_path; scheme = s.scheme; target_limit = s.target_limit }

abbrev pub parts_data : Parts → PartsData
parts_data p = record { params = p.params; static_groups = p.static_groups; http_urls = p.http_urls; rules = items_view p.rules }
