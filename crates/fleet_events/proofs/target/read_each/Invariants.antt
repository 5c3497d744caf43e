use Rattle.std.proofs.Common.{◌≡◌, ◌++◌, option_map, drop}
use Rattle.serde_json.specs.View.{items_view}
use Rattle.json_values.specs.Spelling.{all_in}
use Rattle.fleet_events.specs.Targets.{target_in}
use Rattle.fleet_events.proofs.target.read_each.Given as goal

abbrev pub invariant-loop-value : goal.invariant-loop-value
invariant-loop-value l = option_map (λ rest. l.targets ++ rest) (all_in target_in (items_view (drop l.value-index l.values))) ≡ all_in target_in (items_view l.values)
