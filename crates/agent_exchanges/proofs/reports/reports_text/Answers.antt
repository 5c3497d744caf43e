use Rattle.std.proofs.Common.{◌≡◌, ◌∙◌, ℕ, List, false, ap}
use Rattle.std.proofs.lemmas.Result.{IfOk-weaker}
use Rattle.serde_json.specs.View.{view}
use Rattle.serde_json.specs.Written.{compact_text, has_float}
use Rattle.agent_exchanges.specs.Reports.{reports_data}
use Rattle.agent_exchanges.proofs.EntryLemmas.{reports_no_float}
use Rattle.agent_exchanges.proofs.reports.reports_text.Goals as goal

pub returns : goal.returns
returns c =
    let all = reports_data c.args.head c.args.reports.now in
    let is : view c.in_ok-value.value ≡ all = c.in_ok-value.ensures in
    IfOk-weaker c.text_of.result (λ (t : List ℕ). has_float (view c.in_ok-value.value) ≡ false → t ≡ compact_text (view c.in_ok-value.value)) (λ (t : List ℕ). t ≡ compact_text all)
    (λ t f. f (ap has_float is ∙ reports_no_float c.args.head c.args.reports.now) ∙ ap compact_text is) c.text_of.ensures.form
