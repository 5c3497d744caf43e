use Rattle.std.proofs.Common.{◌≡◌, [], drop}
use Rattle.serde_json.specs.View.{items_view}
use Rattle.service_settings.specs.Collectors.{collectors_from}
use Rattle.service_settings.proofs.settings.collectors.each_collector.Given as goal

abbrev pub invariant-loop-index : goal.invariant-loop-index
invariant-loop-index l = collectors_from l.index l.collectors (items_view (drop l.index l.items)) ≡ collectors_from 0 [] (items_view l.items)
