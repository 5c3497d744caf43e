use Rattle.std.proofs.Common.{◌≡◌, ◌∙◌, ℕ, List, false, ap}
use Rattle.std.proofs.lemmas.Result.{IfOk-weaker}
use Rattle.serde_json.specs.View.{view}
use Rattle.serde_json.specs.Written.{compact_text, has_float}
use Rattle.agent_documents.specs.States.{state_data}
use Rattle.agent_documents.proofs.MarkLemmas.{state_no_float}
use Rattle.agent_documents.proofs.state.write_memory.Goals as goal

pub returns : goal.returns
returns c =
    let told = c.args.memory.now in
    let is : view c.in_ok-value.value ≡ state_data told = c.in_ok-value.ensures in
    IfOk-weaker c.text_of.result (λ (t : List ℕ). has_float (view c.in_ok-value.value) ≡ false → t ≡ compact_text (view c.in_ok-value.value)) (λ (t : List ℕ). t ≡ compact_text (state_data told))
    (λ t f. f (ap has_float is ∙ state_no_float told) ∙ ap compact_text is) c.text_of.ensures.form
