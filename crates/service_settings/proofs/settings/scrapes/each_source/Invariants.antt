use Rattle.std.proofs.Common.{◌≡◌, ◌++◌, drop, Ok}
use Rattle.serde_json.specs.View.{items_view}
use Rattle.service_settings.specs.Reading.{◌>>=◌, each_from}
use Rattle.service_settings.specs.Settings.{source_said}
use Rattle.service_settings.proofs.settings.scrapes.each_source.Given as goal

abbrev pub invariant-loop-entry : goal.invariant-loop-entry
invariant-loop-entry l = each_from (source_said l.job) l.entry (items_view (drop l.entry l.sources)) >>= (λ xs. Ok (l.intervals ++ xs)) ≡ each_from (source_said l.job) 0 (items_view l.sources)
