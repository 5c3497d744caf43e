use Rattle.std.proofs.Common.{◌≡◌, ◌++◌, drop, Ok}
use Rattle.serde_json.specs.View.{items_view}
use Rattle.service_settings.specs.Reading.{◌>>=◌, each_from}
use Rattle.service_settings.specs.Settings.{sources_said}
use Rattle.service_settings.proofs.settings.scrapes.each_config.Given as goal

abbrev pub invariant-loop-job : goal.invariant-loop-job
invariant-loop-job l = each_from sources_said l.job (items_view (drop l.job l.configs)) >>= (λ xs. Ok (l.refresh ++ xs)) ≡ each_from sources_said 0 (items_view l.configs)
