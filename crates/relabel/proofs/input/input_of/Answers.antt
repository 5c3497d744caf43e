use Rattle.std.proofs.Common.{sym, ◌∙◌, ap, ◌++◌, string_bytes}
use Rattle.relabel.proofs.Inputs.{joined_texts}
use Rattle.relabel.proofs.input.input_of.Goals as goal

pub returns : goal.returns
returns c =
    c.from_string-2.ensures
    ∙ joined_texts c.args.rule.now c.args.labels.now c.in-Some.first.now c.in-Some.others.now c.as_str.result.now _ _ _
    (sym c.as_slice.ensures ∙ c.in-Some.ensures.cases.0) c.as_str.ensures c.new-text.ensures.bytes
    (c.in_ok-push_str.ensures.bytes ∙ ap (λ t. string_bytes c.new-text.result ++ t) c.get.ensures.text) c.in_ok-add_others.ensures
