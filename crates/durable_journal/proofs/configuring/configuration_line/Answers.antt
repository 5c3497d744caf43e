use Rattle.std.proofs.Common.{◌≡◌, Some, option_map, sym, ap, ◌∙◌}
use Rattle.serde_json.specs.View.{view}
use Rattle.json_values.specs.Texts.{json_of}
use Rattle.durable_journal.proofs.Marked.{line_opens}
use Rattle.durable_journal.proofs.configuring.configuration_line.Goals as goal

pub returns-in-Some-clause-opens : goal.returns-in-Some-clause-opens
returns-in-Some-clause-opens c =
    let said : json_of c.args.document.now ≡ Some (view c.in-Some.value) = sym c.in_ok-value.ensures ∙ ap (option_map view) c.in-Some.is in
    line_opens c.args.document.now (view c.in-Some.value) c.marked_line.result said c.marked_line.ensures.says
