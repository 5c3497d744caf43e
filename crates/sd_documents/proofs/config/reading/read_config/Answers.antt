use Rattle.serde_json.specs.View.{view}
use Rattle.sd_documents.specs.Config.{config_data, config_said}
use Rattle.sd_documents.proofs.Told.{config_told, given_is_told}
use Rattle.sd_documents.proofs.config.reading.read_config.Goals as goal

pub returns-clause-not_json : goal.returns-clause-not_json
returns-clause-not_json c =
    let d = view c.in_ok-value.value in
    λ is. absurd (given_is_told config_data c.config_in.result (config_said d) c.config_in.ensures.said (config_told d) is)
