use Rattle.std.proofs.Common.{ap, ◌∙◌}
use Rattle.std.specs.Prelude.{string_bytes}
use Rattle.std.proofs.lemmas.Str.{IsUtf8-string_bytes}
use Rattle.serde_json.specs.View.{view}
use Rattle.std.specs.List.{list_any}
use Rattle.json_values.specs.Texts.{json_of, is_line_feed}
use Rattle.json_values.proofs.OneLine.{one_line}
use Rattle.json_values.proofs.Texts.{json_of-text}
use Rattle.json_values.proofs.written.text_of.Goals as goal

pub returns-clause-one_line : goal.returns-clause-one_line
returns-clause-one_line c none =
    ap (list_any is_line_feed) (c.from_string.ensures ∙ c.in_ok-to_string.ensures.text none) ∙ one_line (view c.args.value.now)

pub returns-clause-reads_back : goal.returns-clause-reads_back
returns-clause-reads_back c shallow =
    let text = c.in_ok-to_string.field-0 in
    ap json_of c.from_string.ensures ∙ json_of-text (string_bytes text) (view c.args.value.now) (IsUtf8-string_bytes text) (c.in_ok-to_string.ensures.reads_back shallow)
