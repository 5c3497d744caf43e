use Rattle.std.proofs.Common.{◌≤◌, sym, ap, subst, ◌∙◌}
use Rattle.std.proofs.lemmas.Result.{IfOk-weaker}
use Rattle.serde_json.specs.Data.{Data, depth}
use Rattle.serde_json.specs.Read.{max_depth}
use Rattle.serde_json.specs.Written.{has_float, compact_text}
use Rattle.core_history.specs.History.{history_said, said_by}
use Rattle.core_history.proofs.Forms.{history_levels, history_no_float}
use Rattle.core_history.proofs.writing.write_history.Goals as goal

pub returns-clause-form : goal.returns-clause-form
returns-clause-form c =
    let form = c.in_ok-value.ensures.form in
    IfOk-weaker c.text_of.result _ _ (λ t text. text (ap has_float form ∙ history_no_float c.args.core.now) ∙ ap compact_text form) c.text_of.ensures.form

pub returns-clause-one_line : goal.returns-clause-one_line
returns-clause-one_line c = IfOk-weaker c.text_of.result _ _ (λ t line. line (ap has_float c.in_ok-value.ensures.form ∙ history_no_float c.args.core.now)) c.text_of.ensures.one_line

pub returns-clause-reads_back : goal.returns-clause-reads_back
unfolding history_said
returns-clause-reads_back c =
    let shallow = subst (λ (d : Data). depth d ≤ max_depth) (sym c.in_ok-value.ensures.form) (history_levels c.args.core.now) in
    IfOk-weaker c.text_of.result _ _ (λ t back whole. ap said_by (back shallow) ∙ c.in_ok-value.ensures.reads_back whole) c.text_of.ensures.reads_back
