use Rattle.std.proofs.Common.{◌≡◌, Some, take}
use Rattle.serde_json.specs.View.{items_view}
use Rattle.json_values.specs.Spelling.{all_in, items_data}
use Rattle.core_history.proofs.part.values_of.Given as goal

abbrev pub invariant-loop-part : goal.invariant-loop-part
invariant-loop-part g l = record {
  form : items_view l.values.items ≡ items_data g.T.Part.part_data (take l.part-index l.parts);
  reads_back : all_in g.T.Part.part_in (items_view l.values.items) ≡ Some (take l.part-index l.parts);
}
