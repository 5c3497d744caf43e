use Rattle.std.proofs.Common.{◌≡◌, Some, option_map, sym, ap, ◌∙◌}
use Rattle.json_values.specs.Texts.{json_of}
use Rattle.serde_json.specs.View.{view}
use Rattle.durable_journal.specs.ByHand.{with_note}
use Rattle.durable_journal.proofs.Noted.{noted_opens}
use Rattle.durable_journal.proofs.by_hand.noted_line.Goals as goal

pub returns-clause-opens : goal.returns-clause-opens
returns-clause-opens c =
    let d = view c.in-Some.value in
    let n = view c.in-Some-2.noted in
    let said : json_of c.args.document.now ≡ Some d = sym c.in_ok-value.ensures ∙ ap (option_map view) c.in-Some.is in
    let noted : with_note d ≡ Some n = sym c.in_ok-noted.ensures ∙ ap (option_map view) c.in-Some-2.is in
    noted_opens c.args.document.now d n c.marked_line.result said noted c.marked_line.ensures.says
