use Rattle.std.proofs.Common.{◌≡◌, ◌++◌, drop, option_map}
use Rattle.serde_json.specs.View.{items_view}
use Rattle.json_values.specs.Spelling.{all_in}
use Rattle.fleet_events.specs.Reading.{join_in}
use Rattle.session.proofs.joining.each_join.Given as goal

abbrev pub invariant-loop-collector : goal.invariant-loop-collector
invariant-loop-collector l = option_map (λ xs. l.joins ++ xs) (all_in join_in (items_view (drop l.collector-index l.collectors))) ≡ all_in join_in (items_view l.collectors)
