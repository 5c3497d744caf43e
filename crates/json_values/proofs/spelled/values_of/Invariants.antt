use Rattle.std.proofs.Common.{◌≡◌, Some, take}
use Rattle.serde_json.specs.View.{items_view}
use Rattle.json_values.specs.Spelling.{all_in, items_data}
use Rattle.json_values.proofs.spelled.values_of.Given as goal

abbrev pub invariant-loop-item : goal.invariant-loop-item
invariant-loop-item g l = record {
  form : items_view l.values.items ≡ items_data g.T.Spelled.spelling (take l.item-index l.items);
  reads_back : all_in g.T.FromJson.spelled (items_view l.values.items) ≡ Some (take l.item-index l.items);
}
