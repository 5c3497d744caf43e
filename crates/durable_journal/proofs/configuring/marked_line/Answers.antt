use Rattle.std.proofs.Common.{◌≡◌, ◌||◌, not, Some, option_map, sym, ap, ◌∙◌}
use Rattle.std.specs.Prelude.{nat_eq}
use Rattle.std.specs.List.{list_any, starts_with}
use Rattle.serde_json.specs.View.{view}
use Rattle.json_values.specs.Texts.{is_line_feed}
use Rattle.durable_journal.specs.Marks.{mark_text, marked}
use Rattle.durable_journal.proofs.Marked.{line_begins, line_given, line_has_no_feed, line_says}
use Rattle.durable_journal.proofs.configuring.marked_line.Goals as goal

pub returns-clause-says : goal.returns-clause-says
returns-clause-says c =
    let text = c.in_ok-text_of.field-0 in
    let is : marked (view c.args.document) ≡ Some (view c.in-Some.marked) = sym c.in_ok-marked.ensures ∙ ap (option_map view) c.in-Some.is in
    line_says (list_any is_line_feed text || not (starts_with nat_eq text mark_text)) (view c.args.document) (view c.in-Some.marked) text c.first_line.result is c.in_ok-text_of.ensures.reads_back c.first_line.ensures

pub returns-clause-one_line : goal.returns-clause-one_line
returns-clause-one_line c = line_has_no_feed c.in_ok-text_of.field-0 c.first_line.result c.first_line.ensures

pub returns-clause-begins : goal.returns-clause-begins
returns-clause-begins c = line_begins c.in_ok-text_of.field-0 c.first_line.result c.first_line.ensures

pub returns-clause-given : goal.returns-clause-given
returns-clause-given c =
    let is : marked (view c.args.document) ≡ Some (view c.in-Some.marked) = sym c.in_ok-marked.ensures ∙ ap (option_map view) c.in-Some.is in
    line_given (view c.args.document) (view c.in-Some.marked) c.in_ok-text_of.field-0 c.first_line.result is c.in_ok-text_of.ensures.form c.in_ok-text_of.ensures.one_line c.first_line.ensures
