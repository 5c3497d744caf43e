use Rattle.std.proofs.Common.{◌≡◌, ◌++◌, option_map, drop}
use Rattle.serde_json.specs.View.{items_view}
use Rattle.json_values.specs.Spelling.{all_in}
use Rattle.json_values.proofs.spelled.all.Given as goal

abbrev pub invariant-loop-value : goal.invariant-loop-value
invariant-loop-value g l = option_map (λ rest. l.items.items ++ rest) (all_in g.T.FromJson.spelled (items_view (drop l.value-index l.values))) ≡ all_in g.T.FromJson.spelled (items_view l.values)
