use Rattle.std.proofs.Common.{◌∙◌, sym, ap}
use Rattle.serde_json.specs.View.{view, items_view}
use Rattle.service_settings.specs.declared.error.Member.TheVariants.{ScrapeConfigs}
use Rattle.service_settings.specs.Reading.{items_said}
use Rattle.service_settings.proofs.Beside.{given_beside}
use Rattle.service_settings.proofs.settings.scrapes.refresh_in.Goals as goal

pub returns-clause-beside : goal.returns-clause-beside
returns-clause-beside c = given_beside c.documents_laws.ensures.configs (view c.args.document.now) (items_view c.in_ok-configs.configs.now) c.each_config.result (ap (items_said ScrapeConfigs) (sym c.get.ensures) ∙ c.in_ok-configs.ensures) c.each_config.ensures
