use Rattle.std.proofs.Common.{[], Some, length, ◌<◌, ap, ◌∙◌, arith}
use Rattle.std.proofs.lemmas.List.{get_or_default, take_all}
use Rattle.serde_json.proofs.Views.{view-Array}
use Rattle.serde_json.specs.Data.{array}
use Rattle.price_certificate.specs.Problem.{row_of}
use Rattle.price_certificate.specs.Reach.{rows_in}
use Rattle.json_values.specs.Spelling.{number_in, list_in, number_data, list_data, items_data}
use Rattle.json_values.proofs.Lists.{items_data_more, all_in_more}
use Rattle.price_certificate.proofs.document.writing.reach_of.Goals as goal

pub loop-item-preserved : goal.loop-item-preserved
unfolding row_of
loop-item-preserved c =
    let rows = c.args.instance.now.rows in
    let l : c.loop-item.item < length rows = omega arith in
    let is = c.row.ensures ∙ get_or_default rows c.loop-item.item [] c.row.result.now l in
    record {
      form = items_data_more (list_data number_data) rows c.loop-item.item c.row.result.now c.loop-item.rows.items c.push.new.self.items c.in_ok-array_of.field-0 l is c.in_ok-push.ensures.items c.in_ok-array_of.ensures.form c.loop-item.invariant.form;
      reads_back = all_in_more (list_in number_in) rows c.loop-item.item c.row.result.now c.loop-item.rows.items c.push.new.self.items c.in_ok-array_of.field-0 l is c.in_ok-push.ensures.items c.in_ok-array_of.ensures.reads_back c.loop-item.invariant.reads_back;
    }

pub returns-clause-form : goal.returns-clause-form
returns-clause-form c =
    let all = take_all c.loop-item.item c.args.instance.now.rows (omega arith) in
    view-Array c.loop-item.rows ∙ ap array (c.loop-item.invariant.form ∙ ap (items_data (list_data number_data)) all)

pub returns-clause-reads_back : goal.returns-clause-reads_back
returns-clause-reads_back c =
    let all = take_all c.loop-item.item c.args.instance.now.rows (omega arith) in
    ap rows_in (view-Array c.loop-item.rows) ∙ c.loop-item.invariant.reads_back ∙ ap Some all
