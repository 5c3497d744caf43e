use Rattle.std.proofs.Common.{◌≡◌, Some, take}
use Rattle.serde_json.specs.View.{items_view}
use Rattle.json_values.specs.Spelling.{number_in, list_in, all_in, number_data, list_data, items_data}
use Rattle.price_certificate.proofs.document.writing.reach_of.Given as goal

abbrev pub invariant-loop-item : goal.invariant-loop-item
invariant-loop-item l = record {
  form : items_view l.rows.items ≡ items_data (list_data number_data) (take l.item l.instance.rows);
  reads_back : all_in (list_in number_in) (items_view l.rows.items) ≡ Some (take l.item l.instance.rows);
}
