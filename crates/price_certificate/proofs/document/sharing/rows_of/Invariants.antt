use Rattle.std.proofs.Common.{◌≡◌, Some, map, take}
use Rattle.serde_json.specs.View.{items_view}
use Rattle.json_values.specs.Spelling.{all_in, items_data, list_data, list_in, number_data, number_in}
use Rattle.price_certificate.specs.Problem.{row_of}
use Rattle.price_certificate.proofs.document.sharing.rows_of.Given as goal

abbrev pub invariant-loop-item : goal.invariant-loop-item
invariant-loop-item l = record {
  form : items_view l.rows.items ≡ items_data (list_data number_data) (take l.item-index (map (row_of l.instance) l.items));
  reads_back : all_in (list_in number_in) (items_view l.rows.items) ≡ Some (take l.item-index (map (row_of l.instance) l.items));
}
