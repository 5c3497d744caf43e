use Rattle.std.proofs.Common.{◌<◌, Some, ap, length, map, sym, ◌∙◌, arith}
use Rattle.std.proofs.lemmas.List.{get_or-map, length-map, take_all}
use Rattle.serde_json.proofs.Views.{view-Array}
use Rattle.serde_json.specs.Data.{array}
use Rattle.json_values.specs.Spelling.{items_data, list_data, list_in, number_data, number_in}
use Rattle.json_values.proofs.Lists.{all_in_more, items_data_more}
use Rattle.price_certificate.specs.Problem.{row_of}
use Rattle.price_certificate.proofs.document.sharing.rows_of.Goals as goal

pub loop-item-preserved : goal.loop-item-preserved
loop-item-preserved c =
    let f = row_of c.args.instance.now in
    let items = c.args.items.now in
    let rows = map f items in
    let i = c.loop-item.item-index in
    let l : i < length rows = omega (arith, length-map items f) in
    let is = c.row.ensures ∙ sym (get_or-map f items i 0 c.row.result.now (omega arith)) in
    record {
      form = items_data_more (list_data number_data) rows i c.row.result.now c.loop-item.rows.items c.push.new.self.items c.in_ok-array_of.field-0 l is c.in_ok-push.ensures.items c.in_ok-array_of.ensures.form c.loop-item.invariant.form;
      reads_back = all_in_more (list_in number_in) rows i c.row.result.now c.loop-item.rows.items c.push.new.self.items c.in_ok-array_of.field-0 l is c.in_ok-push.ensures.items c.in_ok-array_of.ensures.reads_back c.loop-item.invariant.reads_back;
    }

pub returns-clause-form : goal.returns-clause-form
returns-clause-form c =
    let rows = map (row_of c.args.instance.now) c.args.items.now in
    let all = take_all c.loop-item.item-index rows (omega (arith, length-map c.args.items.now (row_of c.args.instance.now))) in
    view-Array c.loop-item.rows ∙ ap array (c.loop-item.invariant.form ∙ ap (items_data (list_data number_data)) all)

pub returns-clause-reads_back : goal.returns-clause-reads_back
returns-clause-reads_back c =
    let rows = map (row_of c.args.instance.now) c.args.items.now in
    let all = take_all c.loop-item.item-index rows (omega (arith, length-map c.args.items.now (row_of c.args.instance.now))) in
    ap (list_in (list_in number_in)) (view-Array c.loop-item.rows) ∙ c.loop-item.invariant.reads_back ∙ ap Some all
